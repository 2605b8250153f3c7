-- A file that can't be read.
use Rattle.std.specs.Prelude.{ℕ, ◌≡◌, List, Bool, true, false, if◌then◌else◌, Option, Some, None, refl}
use Rattle.std.proofs.Common.{subst}
use Rattle.jop_base.specs.declared.path.Path.TheVariants.{Item}
use Rattle.jop_target.specs.Replies.{IsReplyTo}
use Rattle.jop_target.specs.declared.call.Call.TheVariants.{Get}
use Rattle.jop_target.specs.declared.reply.Reply.{Reply}
use Rattle.jop_target.specs.declared.reply.Reply.TheVariants.{Listed, Got, GotBlob, Absent, Done, Failed, TooLarge}
use Rattle.law_licences.specs.Items.{remote_in}
use Rattle.law_licences.specs.Sealing.{no_keys}
use Rattle.local_store.specs.declared.content.Content.{Content}
use Rattle.session.specs.Findings.{finding_of, is_base, other_of}
use Rattle.session.specs.declared.finding.Finding.{Finding}
use Rattle.session.specs.declared.finding.Finding.TheVariants.{Same, Unreadable}
use Rattle.upload.specs.Settled.{IsNoItem}

IsBad : Finding → Type 0
IsBad Unreadable = Unit {0}
IsBad finding = ⊥

bad_got : (r : Option (List ℕ × Content)) (same : Bool)
    → IsBad (if same then Same else other_of r) → r ≡ None
unfolding IsBad
bad_got r true h = absurd h
bad_got None false h = refl
bad_got (Some remote) false h = absurd h

bad_is : (id : List ℕ) (base : Option (List ℕ)) (reply : Reply)
    → IsReplyTo (Get (Item id)) reply → ¬ (reply ≡ Failed)
    → IsBad (finding_of id base reply) → IsNoItem id reply
unfolding IsBad
bad_is id base (Got now bytes) shape heard h =
    bad_got (remote_in no_keys id bytes) (is_base base bytes) h
bad_is id None (Absent now) shape heard h = absurd h
bad_is id (Some base) (Absent now) shape heard h = absurd h
bad_is id base (TooLarge len) shape heard h = tt
bad_is id base Failed shape heard h = absurd (heard refl)
bad_is id base (Listed listing) shape heard h = absurd shape
bad_is id base (GotBlob now len) shape heard h = absurd shape
bad_is id base (Done now) shape heard h = absurd shape

pub no_item : (id : List ℕ) (base : Option (List ℕ)) (reply : Reply)
    → IsReplyTo (Get (Item id)) reply → ¬ (reply ≡ Failed)
    → Unreadable ≡ finding_of id base reply → IsNoItem id reply
unfolding IsBad
no_item id base reply shape heard is = bad_is id base reply shape heard (subst IsBad is tt)
