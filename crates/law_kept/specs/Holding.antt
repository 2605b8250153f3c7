-- What rows and conflict notes stand for is what they hold.
use Rattle.std.specs.Prelude.{◌≡◌, ℕ, List, [], ◌∷◌, All, bytes_eq, if◌then◌else◌, Option, Some, None}
use Rattle.item_text.specs.declared.item.Item.{Item}
use Rattle.local_store.specs.Changing.{after_all}
use Rattle.local_store.specs.Rows.{item_of}
use Rattle.local_store.specs.Tables.{new_tables, row_at}
use Rattle.local_store.specs.Tale.{Tale, IsToldStep, MakesAllowed, changes_of}
use Rattle.local_store.specs.declared.conflict_note.ConflictNote.{ConflictNote}
use Rattle.local_store.specs.declared.row.Row.{Row}
use Rattle.local_store.specs.declared.tables.Tables.{Tables}
use Rattle.law_kept.specs.FairTables.{AllObeyWithoutKeys, IsServed}
use Rattle.law_kept.specs.Standing.{Copy, Standing, world_end}
use Rattle.law_kept.specs.Telling.{history_of}

-- ---- conflict notes

-- a conflict note of the tables, as the item's history tells it
abbrev pub copy_of : ConflictNote → Copy
copy_of n = record { number = n.number; item = n.item }

-- the notes of this id, one after the other, ahead of these
unfoldable pub copies_onto : List ℕ → List Copy → List ConflictNote → List Copy
copies_onto id copies [] = copies
copies_onto id copies (n ∷ ns) =
    copies_onto id (if bytes_eq n.note id then copy_of n ∷ copies else copies) ns

-- the notes of this id, the newest first
abbrev pub copies_of : List ℕ → List ConflictNote → List Copy
copies_of id notes = copies_onto id [] notes

-- ---- rows

-- a row that is there stands for the item that it holds
abbrev pub RowIsTrue : Option Row → Option Item → Type 0
RowIsTrue None stood = Unit {0}
RowIsTrue (Some r) stood = stood ≡ Some (item_of r.content)

-- ---- in the end

-- the client's tables after all that it changed
abbrev pub tables_of : Tale → List ℕ → Tables
tables_of tale client = after_all new_tables (changes_of client tale.steps)

-- what the client's row and conflict notes stand for in the end
abbrev pub standing_of : List ℕ → Tale → List ℕ → Standing
standing_of id tale client = ((world_end (history_of id tale)).at client).stands

-- the client's row of this id and its conflict notes are those of which the item's history speaks
pub record HoldsAsTold (id : List ℕ) (tale : Tale) (client : List ℕ) : Type 0 where
  pub row : RowIsTrue (row_at (tables_of tale client) id) (standing_of id tale client).row
  pub copies : (standing_of id tale client).copies
      ≡ copies_of id (tables_of tale client).conflicts

-- each change is told where it is made, and all are allowed
pub record IsToldWell (tale : Tale) : Type 0 where
  pub told : All IsToldStep tale.steps
  pub allowed : (client : List ℕ) → MakesAllowed tale client

-- So it is where the store tells the truth, all obey and have no keys, and each change is told. With
-- keys a row may hold what another client's record of a key opened, and not what was sealed.
abbrev pub TablesHoldAsTold : Type 0
TablesHoldAsTold =
    (id client : List ℕ) (tale : Tale) → IsServed id tale → AllObeyWithoutKeys tale →
    IsToldWell tale → HoldsAsTold id tale client
