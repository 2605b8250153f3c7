-- What asks for a licence by what one has seen, by what the client knows of each item.
use Rattle.std.proofs.Common.{◌≡◌, ◌∙◌, refl, ap, cond, ℕ, List, Bool, true, false, not, Option, Some, None}
use Rattle.std.specs.Prelude.{bytes_eq, is_some, option_map, ◌&&◌, ◌||◌}
use Rattle.std.proofs.lemmas.Bool.{false≢true, and_from}
use Rattle.item_text.specs.declared.item.Item.{Item as AnItem}
use Rattle.jop_base.specs.declared.path.Path.TheVariants.{Item}
use Rattle.jop_base.proofs.KeyedLaws.{same_text, bytes_eq-refl}
use Rattle.jop_target.specs.declared.call.Call.TheVariants.{Get}
use Rattle.jop_target.specs.declared.reply.Reply.{Reply}
use Rattle.jop_target.specs.declared.reply.Reply.TheVariants.{Listed, Got, GotBlob, Absent, Done, Failed, TooLarge}
use Rattle.local_store.specs.Tables.{row_at, base_of}
use Rattle.local_store.specs.declared.content.Content.{Content}
use Rattle.local_store.specs.declared.row.Row.{Row}
use Rattle.law_licences.specs.Checks.{WasGot, IsPending, IsBase, IsOther}
use Rattle.law_licences.specs.Checks as checks
use Rattle.law_licences.specs.Conflicts.{MayConflict}
use Rattle.law_licences.specs.Copies.{must_copy}
use Rattle.law_licences.specs.Items.{is_plain_note, content_with_keys, item_of_file}
use Rattle.law_licences.specs.Licences.{IsInside}
use Rattle.law_licences.specs.Opens.{MayOpen}
use Rattle.law_licences.specs.Pages.{MayTake}
use Rattle.law_licences.specs.Puts.{MayUpload}
use Rattle.law_licences.specs.Sealing.{Sealing}
use Rattle.law_licences.specs.Views.{Heard, View, Stage, Outside, Working, Finished}
use Rattle.law_kept.specs.Acts.{ItemChange, Taken, Conflict}
use Rattle.law_kept.specs.Licences.{is_waiting, is_idle, is_copied, is_copied_from, has_read_base, has_read_nothing, has_written, has_read_item, holds_sealed, is_sealed_row, may_change, may_act}
use Rattle.law_kept.specs.Own.{OwnRow, Wrote, OwnSession, In, Own}
use Rattle.law_kept.specs.Own as own
use Rattle.law_kept.proofs.Clients.{some_same}
use Rattle.law_kept.specs.Telling.{change_act, if_its, number_if}
use Rattle.law_kept.specs.Known.{row_known, check_by, check_known, session_known, known}

-- ---- rows

pending_known : (row : Option Row) → is_waiting (row_known row) ≡ checks.is_pending row
pending_known None = refl
pending_known (Some r) = refl

pub pending_row : (v : View) (id : List ℕ) (r : Row) → IsPending v id r
    → is_waiting (row_known (row_at v.tables id)) ≡ true
pending_row v id r p = rw p.at p.pending

pub idle_row : (v : View) (id : List ℕ) → checks.is_pending (row_at v.tables id) ≡ false
    → is_idle (row_known (row_at v.tables id)) ≡ true
idle_row v id unchanged = ap not (pending_known (row_at v.tables id) ∙ unchanged)

-- ---- checks

inside : (stage : Stage) (check : own.Check) → IsInside stage → session_known stage check ≡ In check
inside Outside check is = absurd is
inside Working check is = refl
inside Finished check is = refl

-- what a get came to
pub got_known : (v : View) (id : List ℕ) (reply : Reply) → IsInside v.stage → WasGot v id reply
    → (known id v).session ≡ In (check_by (Get (Item id)) (Some reply))
got_known v id reply is got =
    ap (λ (last : Option Heard). session_known v.stage (check_known last)) got
    ∙ inside v.stage (check_by (Get (Item id)) (Some reply)) is

-- the file is as the client left it
pub base_read : (id : List ℕ) (base : Option (List ℕ)) (reply : Reply) (row : Option OwnRow)
    (session : OwnSession)
    → own.row_base row ≡ base → session ≡ In (check_by (Get (Item id)) (Some reply))
    → IsBase base reply
    → (has_read_base session row || has_read_nothing session) ≡ true
base_read id (Some base) (Got now bytes) row session based is same =
    rw (is, based, same, bytes_eq-refl base) refl
base_read id None (Absent now) row session based is same = rw is refl
base_read id None (Got now bytes) row session based is same = absurd same
base_read id (Some base) (Absent now) row session based is same = absurd same
base_read id None (Listed listing) row session based is same = absurd same
base_read id None (GotBlob now len) row session based is same = absurd same
base_read id None (Done now) row session based is same = absurd same
base_read id None Failed row session based is same = absurd same
base_read id None (TooLarge len) row session based is same = absurd same
base_read id (Some base) (Listed listing) row session based is same = absurd same
base_read id (Some base) (GotBlob now len) row session based is same = absurd same
base_read id (Some base) (Done now) row session based is same = absurd same
base_read id (Some base) Failed row session based is same = absurd same
base_read id (Some base) (TooLarge len) row session based is same = absurd same

-- another file was got, and is an item's text
other_read : (s : Sealing) (id : List ℕ) (base : Option (List ℕ)) (reply : Reply)
    (remote : List ℕ × Content) (session : OwnSession)
    → session ≡ In (check_by (Get (Item id)) (Some reply)) → IsOther s id base reply (Some remote)
    → has_read_item (item_of_file id) session remote.0 ≡ true
other_read s id base (Got now bytes) remote session is other =
    by (item_of_file id bytes) refl other.1
  where
    by : (item : Option AnItem) → item_of_file id bytes ≡ item
        → option_map (λ i. (bytes, content_with_keys s i)) item ≡ Some remote
        → has_read_item (item_of_file id) session remote.0 ≡ true
    by None reads same = cc
    by (Some item) reads same =
        let these : bytes ≡ remote.0 =
        ap (λ (r : List ℕ × Content). r.0) (some_same (bytes, content_with_keys s item) remote same) in
        rw (is, ← these, bytes_eq-refl bytes, reads) refl
other_read s id None (Absent now) remote session is other = absurd other
other_read s id (Some base) (Absent now) remote session is other = absurd other
other_read s id base (Listed listing) remote session is other = absurd other
other_read s id base (GotBlob now len) remote session is other = absurd other
other_read s id base (Done now) remote session is other = absurd other
other_read s id base Failed remote session is other = absurd other
other_read s id base (TooLarge len) remote session is other = absurd other

-- ---- changes of a session

-- a change of another item needs no licence
pub its_licence : (id i : List ℕ) (o : Own) (change : ItemChange)
    → (i ≡ id → may_change (item_of_file id) o change ≡ true)
    → may_act (item_of_file id) o (change_act (if_its id i change)) ≡ true
its_licence id i o change mine = by (bytes_eq i id) refl where
  by : (same : Bool) → bytes_eq i id ≡ same
      → may_act (item_of_file id) o (change_act (cond same (Some change) None)) ≡ true
  by true is = mine (same_text i id is)
  by false differ = refl

pub upload_known : (v : View) (id bytes : List ℕ) → IsInside v.stage → MayUpload v id bytes
    → has_written (known id v).session bytes ≡ true
upload_known v id bytes is may =
    let same =
    ap (λ (last : Option Heard). session_known v.stage (check_known last)) may.put
    ∙ inside v.stage (Wrote bytes) is in
    rw (same, bytes_eq-refl bytes) refl

pub take_known : (v : View) (id bytes : List ℕ) (content : Content) → IsInside v.stage
    → MayTake v id bytes content
    → may_change (item_of_file id) (known id v) (Taken bytes content) ≡ true
take_known v id bytes content is may =
    and_from (is_idle (known id v).row) (has_read_item (item_of_file id) (known id v).session bytes)
    (idle_row v id may.unchanged)
    (other_read v.sealing id (base_of (row_at v.tables id)) may.reply (bytes, content)
    (known id v).session
    (got_known v id may.reply is may.check) may.other)

-- a note that must be copied is
copied_or_not : (copies needs : Bool) (next : ℕ) → copies ≡ needs
    → (is_some (number_if copies next) || not needs) ≡ true
copied_or_not true needs next same = refl
copied_or_not false true next same = absurd (false≢true same)
copied_or_not false false next same = refl

copied_from : (row : Option Row) (r : Row) (remote : Content) (copies : Bool) (next : ℕ)
    → row ≡ Some r → copies ≡ must_copy r.content remote
    → is_copied_from (row_known row) remote (number_if copies next) ≡ true
copied_from row r remote copies next at same =
    rw at (copied_or_not copies (must_copy r.content remote) next same)

copied_gone : (row : Option Row) (r : Row) (copies : Bool) (next : ℕ)
    → row ≡ Some r → copies ≡ is_plain_note r.content
    → is_copied (row_known row) (number_if copies next) ≡ true
copied_gone row r copies next at same =
    rw at (copied_or_not copies (is_plain_note r.content) next same)

pub conflict_known : (v : View) (id : List ℕ) (remote : Option (List ℕ × Content)) (copies : Bool)
    (next : ℕ) → IsInside v.stage → MayConflict v id remote copies
    → may_change (item_of_file id) (known id v) (Conflict remote (number_if copies next)) ≡ true
conflict_known v id None copies next is may =
    and_from (is_waiting (known id v).row) (is_copied (known id v).row (number_if copies next))
    (pending_row v id may.row may.pending)
    (copied_gone (row_at v.tables id) may.row copies next may.pending.at may.copied)
conflict_known v id (Some remote) copies next is may =
    let read = has_read_item (item_of_file id) (known id v).session remote.0 in
    let copied = is_copied_from (known id v).row remote.1 (number_if copies next) in
    and_from (is_waiting (known id v).row) (read && copied)
    (pending_row v id may.row may.pending)
    (and_from read copied
    (other_read v.sealing id may.row.base may.reply remote (known id v).session
    (got_known v id may.reply is may.check) may.other)
    (copied_from (row_at v.tables id) may.row remote.1 copies next may.pending.at may.copied))

-- a row that is opened is sealed
pub open_known : (v : View) (id : List ℕ) (item : AnItem) → MayOpen v id item
    → is_sealed_row (known id v).row ≡ true
open_known v id item may =
    ap (λ (row : Option Row). is_sealed_row (row_known row)) may.at ∙ ap holds_sealed may.is_sealed
