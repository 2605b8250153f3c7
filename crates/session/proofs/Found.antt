-- What a file is found to be: which licence that gives, and what the report says of it.
use Rattle.std.specs.Prelude.{ℕ, ◌≡◌, List, Bool, true, false, bytes_eq, if◌then◌else◌, Option, Some, None, refl}
use Rattle.std.proofs.Common.{sym, ap, subst, ◌∙◌}
use Rattle.jop_base.proofs.KeyedLaws.{bytes_eq-refl, same_text}
use Rattle.jop_base.specs.declared.path.Path.TheVariants.{Item}
use Rattle.jop_target.specs.Replies.{IsReplyTo}
use Rattle.jop_target.specs.declared.call.Call.TheVariants.{Get}
use Rattle.jop_target.specs.declared.reply.Reply.{Reply}
use Rattle.jop_target.specs.declared.reply.Reply.TheVariants.{Listed, Got, GotBlob, Absent, Done, Failed, TooLarge}
use Rattle.law_licences.specs.Checks.{IsBase, IsOther}
use Rattle.law_licences.specs.Items.{remote_in}
use Rattle.law_licences.specs.Sealing.{no_keys}
use Rattle.local_store.specs.declared.content.Content.{Content}
use Rattle.session.specs.Findings.{absent_of, finding_of, is_base, is_unreadable, other_of}
use Rattle.session.specs.Reported.{is_bad}
use Rattle.session.specs.declared.finding.Finding.{Finding}
use Rattle.session.specs.declared.finding.Finding.TheVariants.{Same, Other, Missing}

-- ---- the report

absent_readable : (base : Option (List ℕ)) → is_unreadable (absent_of base) ≡ false
absent_readable None = refl
absent_readable (Some base) = refl

pub bad_is_unreadable : (id : List ℕ) (base : Option (List ℕ)) (reply : Reply)
    → IsReplyTo (Get (Item id)) reply → ¬ (reply ≡ Failed)
    → is_bad id base reply ≡ is_unreadable (finding_of id base reply)
bad_is_unreadable id base (Got now bytes) shape heard = refl
bad_is_unreadable id base (Absent now) shape heard = sym (absent_readable base)
bad_is_unreadable id base (TooLarge len) shape heard = refl
bad_is_unreadable id base Failed shape heard = absurd (heard refl)
bad_is_unreadable id base (Listed listing) shape heard = absurd shape
bad_is_unreadable id base (GotBlob now len) shape heard = absurd shape
bad_is_unreadable id base (Done now) shape heard = absurd shape

-- ---- as the client left it

IsSame : Finding → Type 0
IsSame Same = Unit {0}
IsSame finding = ⊥

not_same : (r : Option (List ℕ × Content)) → IsSame (other_of r) → ⊥
unfolding IsSame
not_same None h = h
not_same (Some remote) h = h

same_got : (base bytes : List ℕ) (r : Option (List ℕ × Content)) (same : Bool)
    → bytes_eq base bytes ≡ same → IsSame (if same then Same else other_of r) → bytes ≡ base
same_got base bytes r true e h = sym (same_text base bytes e)
same_got base bytes r false e h = absurd (not_same r h)

same_is : (id : List ℕ) (base : Option (List ℕ)) (reply : Reply)
    → IsSame (finding_of id base reply) → IsBase base reply
unfolding IsSame
same_is id (Some base) (Got now bytes) h =
    same_got base bytes (remote_in no_keys id bytes) (bytes_eq base bytes) refl h
same_is id None (Got now bytes) h = absurd (not_same (remote_in no_keys id bytes) h)
same_is id None (Absent now) h = tt
same_is id (Some base) (Absent now) h = absurd h
same_is id base (TooLarge len) h = absurd h
same_is id base Failed h = absurd h
same_is id base (Listed listing) h = absurd h
same_is id base (GotBlob now len) h = absurd h
same_is id base (Done now) h = absurd h

pub base_found : (id : List ℕ) (base : Option (List ℕ)) (reply : Reply)
    → Same ≡ finding_of id base reply → IsBase base reply
unfolding IsSame
base_found id base reply is = same_is id base reply (subst IsSame is tt)

-- ---- another file, or none

-- the file was another one, or there was none any more
IsOf : Option (List ℕ × Content) → Finding → Type 0
IsOf (Some remote) (Other found) = found ≡ remote
IsOf None Missing = Unit {0}
IsOf remote finding = ⊥

of_other : (r : Option (List ℕ × Content)) (remote : List ℕ × Content)
    → IsOf (Some remote) (other_of r) → r ≡ Some remote
unfolding IsOf
of_other None remote h = absurd h
of_other (Some found) remote h = ap (λ (x : List ℕ × Content). Some x) h

not_base : (base : Option (List ℕ)) (bytes : List ℕ) → is_base base bytes ≡ false
    → base ≡ Some bytes → ⊥
not_base base bytes e is =
    let f : true ≡ false =
    sym (bytes_eq-refl bytes) ∙ (sym (ap (λ (b : Option (List ℕ)). is_base b bytes) is) ∙ e) in
    cc

other_got : (id : List ℕ) (base : Option (List ℕ)) (now : ℕ) (bytes : List ℕ)
    (remote : List ℕ × Content) (same : Bool) → is_base base bytes ≡ same
    → IsOf (Some remote) (if same then Same else other_of (remote_in no_keys id bytes))
    → IsOther no_keys id base (Got now bytes) (Some remote)
unfolding IsOf
other_got id base now bytes remote true e h = absurd h
other_got id base now bytes remote false e h =
    (λ is. not_base base bytes e is, of_other (remote_in no_keys id bytes) remote h)

other_is : (id : List ℕ) (base : Option (List ℕ)) (reply : Reply) (remote : List ℕ × Content)
    → IsOf (Some remote) (finding_of id base reply) → IsOther no_keys id base reply (Some remote)
unfolding IsOf
other_is id base (Got now bytes) remote h =
    other_got id base now bytes remote (is_base base bytes) refl h
other_is id None (Absent now) remote h = absurd h
other_is id (Some base) (Absent now) remote h = absurd h
other_is id base (TooLarge len) remote h = absurd h
other_is id base Failed remote h = absurd h
other_is id base (Listed listing) remote h = absurd h
other_is id base (GotBlob now len) remote h = absurd h
other_is id base (Done now) remote h = absurd h

pub other_found : (id : List ℕ) (base : Option (List ℕ)) (reply : Reply)
    (remote : List ℕ × Content) → Other remote ≡ finding_of id base reply
    → IsOther no_keys id base reply (Some remote)
unfolding IsOf
other_found id base reply remote is =
    other_is id base reply remote (subst (IsOf (Some remote)) is refl)

missing_got : (r : Option (List ℕ × Content)) (same : Bool)
    → IsOf None (if same then Same else other_of r) → ⊥
unfolding IsOf
missing_got r true h = h
missing_got None false h = h
missing_got (Some remote) false h = h

missing_is : (id : List ℕ) (base : Option (List ℕ)) (reply : Reply)
    → IsOf None (finding_of id base reply) → IsOther no_keys id base reply None
unfolding IsOf
missing_is id base (Got now bytes) h =
    absurd (missing_got (remote_in no_keys id bytes) (is_base base bytes) h)
missing_is id None (Absent now) h = absurd h
missing_is id (Some base) (Absent now) h = tt
missing_is id base (TooLarge len) h = absurd h
missing_is id base Failed h = absurd h
missing_is id base (Listed listing) h = absurd h
missing_is id base (GotBlob now len) h = absurd h
missing_is id base (Done now) h = absurd h

pub missing_found : (id : List ℕ) (base : Option (List ℕ)) (reply : Reply)
    → Missing ≡ finding_of id base reply → IsOther no_keys id base reply None
unfolding IsOf
missing_found id base reply is = missing_is id base reply (subst (IsOf None) is tt)
