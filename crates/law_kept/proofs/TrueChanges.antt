-- A change of the tables leaves rows and conflict notes that stand for what they hold.
use Rattle.std.proofs.Common.{◌≡◌, ◌∙◌, refl, ap, sym, subst, cond, ℕ, List, ◌∷◌, Bool, true, false, Option, Some, None}
use Rattle.std.specs.Prelude.{bytes_eq}
use Rattle.item_text.specs.declared.item.Item.{Item as AnItem}
use Rattle.jop_base.proofs.KeyedLaws.{same_text, bytes_eq-refl}
use Rattle.jop_target.specs.declared.reply.Reply.{Reply}
use Rattle.jop_target.specs.declared.reply.Reply.TheVariants.{Listed, Got, GotBlob, Absent, Done, Failed, TooLarge}
use Rattle.local_store.proofs.Keeping.{IsOrdered, ordered_noted, sound_ordered}
use Rattle.local_store.specs.Changing.{after, with_row, without_row, uploaded, noted_if, with_remote, conflicted}
use Rattle.local_store.specs.Rows.{item_of}
use Rattle.local_store.specs.Tables.{row_at, base_of}
use Rattle.local_store.specs.declared.change.Change.{Change}
use Rattle.local_store.specs.declared.change.Change.TheVariants as tables
use Rattle.local_store.specs.declared.conflict_note.ConflictNote.{ConflictNote}
use Rattle.local_store.specs.declared.content.Content.{Content}
use Rattle.local_store.specs.declared.row.Row.{Row}
use Rattle.local_store.specs.declared.tables.Tables.{Tables}
use Rattle.law_licences.specs.Checks.{WasGot, IsOther}
use Rattle.law_licences.specs.Licences.{IsLocal, MayChange, MayMakeAt}
use Rattle.law_licences.specs.Conflicts.{MayConflict}
use Rattle.law_licences.specs.Leaving.{MayMove}
use Rattle.law_licences.specs.Items.{remote_in}
use Rattle.law_licences.specs.Pages.{MayTake}
use Rattle.law_licences.specs.Sealing.{Sealing, no_keys}
use Rattle.law_licences.specs.Views.{Heard, View, Stage, Outside, Working, Finished}
use Rattle.law_kept.proofs.Clients.{some_same}
use Rattle.law_kept.specs.Acts.{ItemChange, Taken, Conflict, Moved, Version}
use Rattle.law_kept.specs.Standing.{Copy, Standing, stands_changed, stands_after}
use Rattle.law_kept.specs.Standing as stand
use Rattle.law_kept.specs.Telling.{change_act, if_its, number_if}
use Rattle.law_kept.specs.Holding.{RowIsTrue, copy_of, copies_of}
use Rattle.law_kept.specs.Known.{check_known}
use Rattle.law_kept.proofs.Copies.{copies_more, copies_beside}
use Rattle.law_kept.proofs.Rows.{with_own, with_other, without_own, without_other}
use Rattle.law_kept.proofs.Texts.{ReadsTo, remote_reads}
use Rattle.law_kept.proofs.TrueCalls.{GotIsTrue, IsTrue, row_is}

-- ---- changes

-- what a change leaves of the item
pub record Parts (id : List ℕ) (u : Tables) (s z : Standing) : Type 0 where
  pub row : RowIsTrue (row_at u id) z.row
  pub copies : z.copies ≡ copies_of id u.conflicts
  pub got : z.got ≡ s.got

pub parts_of : (id : List ℕ) (u : Tables) (s z : Standing) (row : Option Row)
    → row_at u id ≡ row → RowIsTrue row z.row → z.copies ≡ copies_of id u.conflicts
    → z.got ≡ s.got → Parts id u s z
parts_of id u s z row at stands copies got = record {
  row = subst (λ (o : Option Row). RowIsTrue o z.row) (sym at) stands;
  copies = copies;
  got = got;
}

-- where another item's row changes
pub parts_beside : (id : List ℕ) (t u : Tables) (s : Standing)
    → RowIsTrue (row_at t id) s.row → s.copies ≡ copies_of id t.conflicts
    → row_at u id ≡ row_at t id → copies_of id u.conflicts ≡ copies_of id t.conflicts
    → Parts id u s s
parts_beside id t u s row copies same notes = record {
  row = subst (λ (o : Option Row). RowIsTrue o s.row) (sym same) row;
  copies = copies ∙ sym notes;
  got = refl;
}

pub uploaded_parts : (id bytes : List ℕ) (t : Tables) (s : Standing) (row : Option Row)
    → row_at t id ≡ row → RowIsTrue (row_at t id) s.row → s.copies ≡ copies_of id t.conflicts
    → Parts id (uploaded t id bytes row) s s
uploaded_parts id bytes t s None at is copies = record { row = is; copies = copies; got = refl }
uploaded_parts id bytes t s (Some r) at is copies =
    let new : Row = record { id = id; content = r.content; base = Some bytes; pending = false } in
    parts_of id (with_row t new) s s (Some new) (with_own t new id refl)
    (row_is (row_at t id) r s.row is at) copies refl

pub uploaded_aside : (id i bytes : List ℕ) (t : Tables) (s : Standing) (row : Option Row)
    → bytes_eq i id ≡ false → RowIsTrue (row_at t id) s.row
    → s.copies ≡ copies_of id t.conflicts → Parts id (uploaded t i bytes row) s s
uploaded_aside id i bytes t s None differ is copies =
    record { row = is; copies = copies; got = refl }
uploaded_aside id i bytes t s (Some r) differ is copies =
    let new : Row = record { id = i; content = r.content; base = Some bytes; pending = false } in
    parts_beside id t (with_row t new) s is copies (with_other t new id differ) refl

-- the row that gives way joins the conflict notes if it is copied
noted_copies : (id : List ℕ) (t : Tables) (s : Standing) (item : AnItem) (copies : Bool)
    → s.row ≡ Some item → s.copies ≡ copies_of id t.conflicts
    → stand.copies_noted_if (number_if copies t.next_conflict) s.row s.copies
    ≡ copies_of id (noted_if copies t id item).conflicts
noted_copies id t s item true stands same =
    let n : ConflictNote = record { number = t.next_conflict; note = id; item = item } in
    ap (λ (o : Option AnItem). stand.copies_noted t.next_conflict o s.copies) stands
    ∙ (ap (λ (cs : List Copy). copy_of n ∷ cs) same
    ∙ sym (copies_more id t.conflicts n (bytes_eq-refl id)))
noted_copies id t s item false stands same = same

noted_aside : (id i : List ℕ) (t : Tables) (item : AnItem) (copies : Bool)
    → bytes_eq i id ≡ false
    → copies_of id (noted_if copies t i item).conflicts ≡ copies_of id t.conflicts
noted_aside id i t item true differ =
    copies_beside id t.conflicts
    (record { number = t.next_conflict; note = i; item = item }) differ
noted_aside id i t item false differ = refl

noted_row : (id i : List ℕ) (t : Tables) (item : AnItem) (copies : Bool)
    → row_at (noted_if copies t i item) id ≡ row_at t id
noted_row id i t item true = refl
noted_row id i t item false = refl

-- what a conflict leaves: nothing, or what was got
remote_parts : (id : List ℕ) (u : Tables) (remote : Option (List ℕ × Content)) (s z : Standing)
    → IsOrdered u
    → ((there : List ℕ × Content) → remote ≡ Some there → z.row ≡ Some (item_of there.1))
    → z.copies ≡ copies_of id u.conflicts → z.got ≡ s.got
    → Parts id (with_remote u id remote) s z
remote_parts id u None s z o stands copies got =
    parts_of id (without_row u id) s z None (without_own u id o) tt copies got
remote_parts id u (Some there) s z o stands copies got =
    let new : Row =
    record { id = id; content = there.1; base = Some there.0; pending = false } in
    parts_of id (with_row u new) s z (Some new) (with_own u new id refl) (stands there refl) copies
    got

remote_row : (id i : List ℕ) (u : Tables) (remote : Option (List ℕ × Content))
    → bytes_eq i id ≡ false → row_at (with_remote u i remote) id ≡ row_at u id
remote_row id i u None differ = without_other u i id differ
remote_row id i u (Some there) differ =
    with_other u (record { id = i; content = there.1; base = Some there.0; pending = false }) id
    differ

remote_notes : (i : List ℕ) (u : Tables) (remote : Option (List ℕ × Content))
    → (with_remote u i remote).conflicts ≡ u.conflicts
remote_notes i u None = refl
remote_notes i u (Some there) = refl

pub conflicted_aside : (id i : List ℕ) (t : Tables) (remote : Option (List ℕ × Content))
    (copies : Bool) (row : Option Row) (s : Standing)
    → bytes_eq i id ≡ false → RowIsTrue (row_at t id) s.row
    → s.copies ≡ copies_of id t.conflicts → Parts id (conflicted t i remote copies row) s s
conflicted_aside id i t remote copies None s differ is same =
    record { row = is; copies = same; got = refl }
conflicted_aside id i t remote copies (Some r) s differ is same =
    let more : Tables = noted_if copies t i (item_of r.content) in
    parts_beside id t (with_remote more i remote) s is same
    (remote_row id i more remote differ ∙ noted_row id i t (item_of r.content) copies)
    (ap (copies_of id) (remote_notes i more remote)
    ∙ noted_aside id i t (item_of r.content) copies differ)

-- what was got stands for what the row becomes
got_reads : (id : List ℕ) (v : View) (t : Tables) (s : Standing) (base : Option (List ℕ))
    (reply : Reply) (remote : List ℕ × Content)
    → IsTrue id v t s → WasGot v id reply → IsOther v.sealing id base reply (Some remote)
    → s.got ≡ Some (item_of remote.1)
got_reads id v t s base (Got now bytes) remote h was other =
    let reads : ReadsTo id bytes s.got =
    subst (λ (last : Option Heard). GotIsTrue id (check_known last) s.got) was h.got in
    let read : remote_in no_keys id bytes ≡ Some remote =
    subst (λ (z : Sealing). remote_in z id bytes ≡ Some remote) h.keyless other.1 in
    remote_reads id bytes remote s.got reads read
got_reads id v t s None (Absent now) remote h was other = absurd other
got_reads id v t s (Some base) (Absent now) remote h was other = absurd other
got_reads id v t s base (Listed listing) remote h was other = absurd other
got_reads id v t s base (GotBlob now len) remote h was other = absurd other
got_reads id v t s base (Done now) remote h was other = absurd other
got_reads id v t s base Failed remote h was other = absurd other
got_reads id v t s base (TooLarge len) remote h was other = absurd other

pub taken_parts : (id bytes : List ℕ) (content : Content) (v : View) (t : Tables) (s : Standing)
    → IsTrue id v t s → MayTake v id bytes content
    → Parts id (after v.tables (tables.Taken id bytes content)) s
    (stands_changed s (Taken bytes content))
taken_parts id bytes content v t s h may =
    let new : Row = record { id = id; content = content; base = Some bytes; pending = false } in
    parts_of id (with_row v.tables new) s (stands_changed s (Taken bytes content)) (Some new)
    (with_own v.tables new id refl)
    (got_reads id v t s (base_of (row_at v.tables id)) may.reply (bytes, content) h may.check
    may.other)
    h.copies refl

-- the row stands for what was got, or is gone
conflict_stands : (id : List ℕ) (remote : Option (List ℕ × Content)) (copied : Option ℕ)
    (v : View) (t : Tables) (s : Standing) (copies : Bool)
    → IsTrue id v t s → MayConflict v id remote copies
    → (there : List ℕ × Content) → remote ≡ Some there
    → (stands_changed s (Conflict remote copied)).row ≡ Some (item_of there.1)
conflict_stands id None copied v t s copies h may there same = cc
conflict_stands id (Some remote) copied v t s copies h may there same =
    got_reads id v t s may.row.base may.reply remote h may.check may.other
    ∙ ap (λ (r : List ℕ × Content). Some (item_of r.1)) (some_same remote there same)

pub conflict_parts : (id : List ℕ) (remote : Option (List ℕ × Content)) (copies : Bool) (v : View)
    (t : Tables) (s : Standing)
    → IsTrue id v t s → MayConflict v id remote copies
    → Parts id (after v.tables (tables.Conflict id remote copies)) s
    (stands_changed s (Conflict remote (number_if copies v.tables.next_conflict)))
conflict_parts id remote copies v t s h may =
    let r : Row = may.row in
    let z : Standing =
    stands_changed s (Conflict remote (number_if copies v.tables.next_conflict)) in
    let stands = row_is (row_at v.tables id) r s.row h.row may.pending.at in
    let more : Tables = noted_if copies v.tables id (item_of r.content) in
    subst (λ (row : Option Row). Parts id (conflicted v.tables id remote copies row) s z)
    (sym may.pending.at)
    (remote_parts id more remote s z
    (ordered_noted copies v.tables id (item_of r.content) (sound_ordered v.tables h.sound))
    (conflict_stands id remote (number_if copies v.tables.next_conflict) v t s copies h may)
    (noted_copies id v.tables s (item_of r.content) copies stands h.copies) refl)

pub moved_parts : (id : List ℕ) (v : View) (t : Tables) (s : Standing)
    → IsTrue id v t s → MayMove v id
    → Parts id (after v.tables (tables.Moved id)) s
    (stands_changed s (Moved v.tables.next_conflict))
moved_parts id v t s h may =
    let r : Row = may.row in
    let z : Standing = stands_changed s (Moved v.tables.next_conflict) in
    let stands = row_is (row_at v.tables id) r s.row h.row may.at in
    let more : Tables = noted_if true v.tables id (item_of r.content) in
    subst (λ (row : Option Row). Parts id (conflicted v.tables id None true row) s z)
    (sym may.at)
    (parts_of id (without_row more id) s z None
    (without_own more id
    (ordered_noted true v.tables id (item_of r.content) (sound_ordered v.tables h.sound))) tt
    (noted_copies id v.tables s (item_of r.content) true stands h.copies) refl)

-- a change of the item's own row, or of another one's
pub parts_by_id : (id i : List ℕ) (file : Option Version) (t : Tables) (s : Standing)
    (change : List ℕ → Change) (its : ItemChange)
    → (i ≡ id → Parts id (after t (change id)) s (stands_changed s its))
    → (bytes_eq i id ≡ false → Parts id (after t (change i)) s s)
    → Parts id (after t (change i)) s (stands_after file s (change_act (if_its id i its)))
parts_by_id id i file t s change its mine other = by (bytes_eq i id) refl where
  by : (same : Bool) → bytes_eq i id ≡ same
      → Parts id (after t (change i)) s
      (stands_after file s (change_act (cond same (Some its) None)))
  by true is =
      let equal = same_text i id is in
      subst (λ (k : List ℕ). Parts id (after t (change k)) s (stands_changed s its)) (sym equal)
      (mine equal)
  by false differ = other differ

-- what isn't the user's stands in a session
pub session_change : (stage : Stage) (v : View) (c : Change) → ¬ IsLocal c → MayMakeAt stage v c
    → MayChange v c
session_change Outside v c isnt may = absurd (isnt may)
session_change Working v c isnt may = may
session_change Finished v c isnt may = absurd may

-- without keys nothing is opened
pub none_opened : (s : Sealing) (outer item : AnItem) → s ≡ no_keys → s.opens outer ≡ Some item → ⊥
none_opened s outer item keyless opens =
    let none : None ≡ Some item =
    subst (λ (z : Sealing). z.opens outer ≡ Some item) keyless opens in
    cc
