-- A record holds one value only.
use Rattle.std.specs.Prelude.{ℕ, pos, ◌≡◌, List, [], ◌∷◌, All, Bool, true, false, Option, Some, refl}
use Rattle.std.proofs.Common.{sym, ◌∙◌, ap}
use Rattle.std.proofs.lemmas.List.Elements.{All-cons, All-nil, All-head, All-tail}
use Rattle.jop_base.specs.Keyed.{IsSorted}
use Rattle.item_text.specs.declared.item.Item.{Item}
use Rattle.sync_info.specs.Info.{IsInfo}
use Rattle.local_store.specs.declared.conflict_note.ConflictNote.{ConflictNote}
use Rattle.local_store.specs.declared.content.Content.{Content}
use Rattle.local_store.specs.declared.content.Content.TheVariants.{Plain, Sealed}
use Rattle.local_store.specs.declared.deletion.Deletion.{Deletion}
use Rattle.local_store.specs.declared.row.Row.{Row}
use Rattle.local_store.specs.declared.tables.Tables.{Tables}
use Rattle.local_store.specs.Rows.{row_id, deletion_id, item_of}
use Rattle.local_store.specs.Sound.{IsSound, IsSoundRow, IsSoundNote}
use Rattle.keeper_columns.specs.declared.deletion_record.DeletionRecord.{DeletionRecord}
use Rattle.keeper_columns.specs.declared.note_record.NoteRecord.{NoteRecord}
use Rattle.keeper_columns.specs.declared.row_record.RowRecord.{RowRecord}
use Rattle.keeper_columns.specs.Columns.{flag}
use Rattle.keeper_columns.specs.Holding.{HoldsRow, HoldsDeletion, HoldsNote, is_sealed_content, IsSoundConflict}

one_flag : (a b : Bool) → flag a ≡ flag b → a ≡ b
one_flag true true is = refl
one_flag true false is = cc
one_flag false true is = cc
one_flag false false is = refl

one_content : (c d : Content) → is_sealed_content c ≡ is_sealed_content d → item_of c ≡ item_of d → c ≡ d
one_content (Plain i) (Plain j) sealed item = ap Plain item
one_content (Plain i) (Sealed j) sealed item = cc
one_content (Sealed i) (Plain j) sealed item = cc
one_content (Sealed i) (Sealed j) sealed item = ap Sealed item

some_item : (i j : Item) → Some i ≡ Some j → i ≡ j
some_item i j is = cc

row_with : List ℕ → Content → Option (List ℕ) → Bool → Row
row_with id content base pending =
    record { id = id; content = content; base = base; pending = pending }

pub one_row : (s : RowRecord) (r q : Row) → HoldsRow s r → HoldsRow s q → r ≡ q
unfolding row_with
one_row s r q h k =
    let id : r.id ≡ q.id = sym h.id ∙ k.id in
    let content : r.content ≡ q.content = one_content r.content q.content
    (one_flag _ _ (sym h.sealed ∙ k.sealed)) (some_item _ _ (sym h.content ∙ k.content)) in
    let base : r.base ≡ q.base = sym h.base ∙ k.base in
    let pending : r.pending ≡ q.pending = one_flag _ _ (sym h.pending ∙ k.pending) in
    ap (λ i. row_with i r.content r.base r.pending) id
    ∙ (ap (λ c. row_with q.id c r.base r.pending) content
    ∙ (ap (λ b. row_with q.id q.content b r.pending) base
    ∙ ap (λ p. row_with q.id q.content q.base p) pending))

deletion_with : List ℕ → Bool → Deletion
deletion_with id resource = record { id = id; resource = resource }

pub one_deletion : (s : DeletionRecord) (d e : Deletion) → HoldsDeletion s d → HoldsDeletion s e → d ≡ e
unfolding deletion_with
one_deletion s d e h k =
    let id : d.id ≡ e.id = sym h.id ∙ k.id in
    let resource : d.resource ≡ e.resource = one_flag _ _ (sym h.resource ∙ k.resource) in
    ap (λ i. deletion_with i d.resource) id ∙ ap (λ r. deletion_with e.id r) resource

note_with : ℕ → List ℕ → Item → ConflictNote
note_with number note item = record { number = number; note = note; item = item }

one_number : (m n : ℕ) → pos m ≡ pos n → m ≡ n
one_number m n is = cc

pub one_note : (s : NoteRecord) (m n : ConflictNote) → HoldsNote s m → HoldsNote s n → m ≡ n
unfolding note_with
one_note s m n h k =
    let number : m.number ≡ n.number = one_number _ _ (sym h.number ∙ k.number) in
    let note : m.note ≡ n.note = sym h.note ∙ k.note in
    let item : m.item ≡ n.item = some_item _ _ (sym h.content ∙ k.content) in
    ap (λ a. note_with a m.note m.item) number
    ∙ (ap (λ b. note_with n.number b m.item) note ∙ ap (λ c. note_with n.number n.note c) item)

notes_sound : (ns : List ConflictNote) → All IsSoundConflict ns → All IsSoundNote ns
notes_sound [] all = All-nil IsSoundNote
notes_sound (n ∷ ns) all = All-cons IsSoundNote n ns (All-head IsSoundConflict n ns all).1
    (notes_sound ns (All-tail IsSoundConflict n ns all))

-- tables whose parts are sound are sound
pub tables_sound : (t : Tables) → All IsSoundRow t.rows → All IsSoundConflict t.conflicts
    → IsInfo t.info → IsSorted row_id t.rows → IsSorted deletion_id t.deletions → IsSound t
tables_sound t rows conflicts info rows_ordered deletions_ordered = record {
  rows_ordered = rows_ordered;
  rows = rows;
  deletions_ordered = deletions_ordered;
  conflicts = notes_sound t.conflicts conflicts;
  info = info;
}
