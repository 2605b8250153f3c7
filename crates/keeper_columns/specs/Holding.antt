-- Which rows, deletions and conflict notes the records of a database hold.
use Rattle.std.specs.Prelude.{pos, ◌≡◌, Bool, true, false, Some}
use Rattle.item_text.specs.Grammar.{item_in}
use Rattle.item_text.specs.Valid.{IsItem}
use Rattle.jop_base.specs.Id.{IsIdText}
use Rattle.local_store.specs.declared.conflict_note.ConflictNote.{ConflictNote}
use Rattle.local_store.specs.declared.content.Content.{Content}
use Rattle.local_store.specs.declared.content.Content.TheVariants.{Plain, Sealed}
use Rattle.local_store.specs.declared.deletion.Deletion.{Deletion}
use Rattle.local_store.specs.declared.row.Row.{Row}
use Rattle.local_store.specs.Rows.{item_of}
use Rattle.keeper_columns.specs.declared.deletion_record.DeletionRecord.{DeletionRecord}
use Rattle.keeper_columns.specs.declared.note_record.NoteRecord.{NoteRecord}
use Rattle.keeper_columns.specs.declared.row_record.RowRecord.{RowRecord}
use Rattle.keeper_columns.specs.Columns.{flag, text_beside}

abbrev pub is_sealed_content : Content → Bool
is_sealed_content (Plain item) = false
is_sealed_content (Sealed item) = true

-- the text in the record reads as the row's item, and all else is the row's
pub record HoldsRow (s : RowRecord) (r : Row) : Type 0 where
  pub id : s.id ≡ r.id
  pub sealed : s.sealed ≡ flag (is_sealed_content r.content)
  pub content : item_in (text_beside s.content s.base) ≡ Some (item_of r.content)
  pub base : s.base ≡ r.base
  pub pending : s.pending ≡ flag r.pending

pub record HoldsDeletion (s : DeletionRecord) (d : Deletion) : Type 0 where
  pub id : s.id ≡ d.id
  pub resource : s.resource ≡ flag d.resource

-- the text in the record reads as the note's item, and all else is the note's
pub record HoldsNote (s : NoteRecord) (n : ConflictNote) : Type 0 where
  pub number : s.number ≡ pos n.number
  pub note : s.note ≡ n.note
  pub content : item_in s.content ≡ Some n.item

-- a deletion is of an id
abbrev pub IsSoundDeletion : Deletion → Type 0
IsSoundDeletion d = IsIdText d.id

-- a conflict note is of an id, and its text can be written
abbrev pub IsSoundConflict : ConflictNote → Type 0
IsSoundConflict n = IsIdText n.note × IsItem n.item
