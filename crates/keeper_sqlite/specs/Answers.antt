-- What a database shows, and what its rows stand for.
use Rattle.std.specs.Prelude.{ℕ, ◌≡◌, List, [], ◌∷◌, Option, Some, None, Result, Ok, Err, codes}
use Rattle.std.specs.List.Sorted.{IsPermutation}
use Rattle.sqlite.specs.Values.{or_null}
use Rattle.sqlite_value.specs.Order.{column}
use Rattle.sqlite_value.specs.declared.value.Value.{Value}
use Rattle.sqlite_value.specs.declared.value.Value.TheVariants.{Int, Text, Blob}
use Rattle.local_store.specs.declared.conflict_note.ConflictNote.{ConflictNote}
use Rattle.local_store.specs.declared.deletion.Deletion.{Deletion}
use Rattle.local_store.specs.declared.row.Row.{Row}
use Rattle.local_store.specs.declared.tables.Tables.{Tables}
use Rattle.keeper_columns.specs.Holding.{HoldsRow, HoldsDeletion, HoldsNote}
use Rattle.keeper_columns.specs.Meta.{HoldsMeta}
use Rattle.keeper_columns.specs.declared.deletion_record.DeletionRecord.{DeletionRecord}
use Rattle.keeper_columns.specs.declared.meta_record.MetaRecord.{MetaRecord}
use Rattle.keeper_columns.specs.declared.note_record.NoteRecord.{NoteRecord}
use Rattle.keeper_columns.specs.declared.row_record.RowRecord.{RowRecord}
use Rattle.keeper_file.specs.declared.layout.Layout.{Layout}
use Rattle.keeper_sqlite.specs.declared.query.Query.{Query}
use Rattle.keeper_sqlite.specs.declared.query.Query.TheVariants.{Meta, AllRows, OneRow, AllDeletions, AllConflicts, OneBlob}
use Rattle.keeper_sqlite.specs.Speaking.{Spoken, MadeNoMore}

-- which rows a query of these values is answered by
abbrev pub QueryAnswers : Type 0
QueryAnswers = Query → List Value → List (List Value)

-- a database at a moment: what was said to it, what it shows, and what stands in it, if it tells
pub record DatabaseNow : Type 0 where
  pub spoken : Option Spoken
  pub shows : Option QueryAnswers
  pub layout : Option Layout

abbrev pub untold : DatabaseNow
untold = record { spoken = None; shows = None; layout = None }

-- a database that may not be open yet, and how it is when it is opened
abbrev pub database_now : {D : Type 0} → (D → DatabaseNow) → DatabaseNow → Option D → DatabaseNow
database_now state first None = first
database_now state first (Some database) = state database

-- ---- the columns of a row

pub record IsRowRecord (columns : List Value) (s : RowRecord) : Type 0 where
  pub id : column columns 0 ≡ Text s.id
  pub sealed : column columns 1 ≡ Int s.sealed
  pub content : column columns 2 ≡ Blob s.content
  pub base : column columns 3 ≡ or_null Blob s.base
  pub pending : column columns 4 ≡ Int s.pending

pub record IsDeletionRecord (columns : List Value) (s : DeletionRecord) : Type 0 where
  pub id : column columns 0 ≡ Text s.id
  pub resource : column columns 1 ≡ Int s.resource

pub record IsNoteRecord (columns : List Value) (s : NoteRecord) : Type 0 where
  pub number : column columns 0 ≡ Int s.number
  pub note : column columns 1 ≡ Text s.note
  pub content : column columns 2 ≡ Blob s.content

-- the columns are those of a record that holds the value
pub record StandsForRow (columns : List Value) (row : Row) : Type 0 where
  pub kept : RowRecord
  pub read : IsRowRecord columns kept
  pub holds : HoldsRow kept row

pub record StandsForDeletion (columns : List Value) (deletion : Deletion) : Type 0 where
  pub kept : DeletionRecord
  pub read : IsDeletionRecord columns kept
  pub holds : HoldsDeletion kept deletion

pub record StandsForNote (columns : List Value) (note : ConflictNote) : Type 0 where
  pub kept : NoteRecord
  pub read : IsNoteRecord columns kept
  pub holds : HoldsNote kept note

abbrev pub StandsForBytes : List Value → List ℕ → Type 0
StandsForBytes columns bytes = column columns 0 ≡ Blob bytes

-- ---- answers

-- the first of the rows stand for the values, one by one, and the rest is left
abbrev pub TakenFrom : {T : Type 0} → (List Value → T → Type 0) → List (List Value) → List T
    → List (List Value) → Type 0
TakenFrom stands rows [] rest = rest ≡ rows
TakenFrom stands [] (value ∷ values) rest = ⊥
TakenFrom stands (row ∷ rows) (value ∷ values) rest =
    stands row value × TakenFrom stands rows values rest

-- the same of an answer that may not tell
abbrev pub IsTakenUpTo : {T : Type 0} → (List Value → T → Type 0) → Option (List (List Value))
    → List T → Option (List (List Value)) → Type 0
IsTakenUpTo stands None values after = after ≡ None
IsTakenUpTo stands (Some rows) values None = ⊥
IsTakenUpTo stands (Some rows) values (Some rest) = TakenFrom stands rows values rest

-- an answer that may not tell gives its next row, which stands for the value, or no row is left
abbrev pub GivesNext : {T : Type 0} → (List Value → T → Type 0) → Option (List (List Value))
    → Option T → Option (List (List Value)) → Type 0
GivesNext stands None value after = after ≡ None
GivesNext stands (Some []) value after = (value ≡ None) × (after ≡ Some [])
GivesNext stands (Some (row ∷ rows)) None after = ⊥
GivesNext stands (Some (row ∷ rows)) (Some value) after = stands row value × (after ≡ Some rows)

-- all rows of an answer stand for the values, one by one, if it tells
abbrev pub AreTaken : {T : Type 0} → (List Value → T → Type 0) → Option (List (List Value)) → List T
    → Type 0
AreTaken stands None values = Unit {0}
AreTaken stands (Some rows) values = TakenFrom stands rows values []

-- the first of the rows stands for the value, or there is neither
abbrev pub IsFirstOf : {T : Type 0} → (List Value → T → Type 0) → List (List Value) → Option T
    → Type 0
IsFirstOf stands [] None = Unit {0}
IsFirstOf stands [] (Some value) = ⊥
IsFirstOf stands (row ∷ rows) None = ⊥
IsFirstOf stands (row ∷ rows) (Some value) = stands row value

-- ---- what is shown, if that is told

abbrev pub AreShown : {T : Type 0} → (List Value → T → Type 0) → Option QueryAnswers → Query
    → List T → Type 0
AreShown stands None query values = Unit {0}
AreShown stands (Some answers) query values = TakenFrom stands (answers query []) values []

abbrev pub IsFirstShown : {T : Type 0} → (List Value → T → Type 0) → Option QueryAnswers → Query
    → List Value → Option T → Type 0
IsFirstShown stands None query asked value = Unit {0}
IsFirstShown stands (Some answers) query asked value = IsFirstOf stands (answers query asked) value

abbrev pub IsLayoutShown : Option Layout → Layout → Type 0
IsLayoutShown None found = Unit {0}
IsLayoutShown (Some told) found = found ≡ told

-- ---- what is read

-- a call that reads changes nothing
abbrev pub OnlyReads : {T E : Type 0} → DatabaseNow → Result T E → DatabaseNow → Type 0
OnlyReads before (Ok value) after = after ≡ before
OnlyReads before (Err error) after = MadeNoMore before.spoken after.spoken

-- the row of an id
abbrev pub RowShown : Option QueryAnswers → List ℕ → Option Row → Type 0
RowShown shows id row = IsFirstShown StandsForRow shows OneRow (Text id ∷ []) row

-- the bytes of the resource of an id
abbrev pub BlobShown : Option QueryAnswers → List ℕ → Option (List ℕ) → Type 0
BlobShown shows id bytes = IsFirstShown StandsForBytes shows OneBlob (Text id ∷ []) bytes

-- the value of a key
abbrev pub KeyShown : Option QueryAnswers → List ℕ → Option (List ℕ) → Type 0
KeyShown shows key value = IsFirstShown StandsForBytes shows Meta (Text key ∷ []) value

-- each is the value of its own key; that of the client may not be there
pub record MetaShown (shows : Option QueryAnswers) (s : MetaRecord) : Type 0 where
  pub client : KeyShown shows (codes "client") s.client
  pub next_conflict : KeyShown shows (codes "next_conflict") (Some s.next_conflict)
  pub moment : KeyShown shows (codes "moment") (Some s.moment)
  pub seen : KeyShown shows (codes "seen") (Some s.seen)
  pub info : KeyShown shows (codes "info") (Some s.info)

-- the rows are all those that are shown, in whatever order
pub record RowsShown (shows : Option QueryAnswers) (rows : List Row) : Type 0 where
  pub found : List Row
  pub shown : AreShown StandsForRow shows AllRows found
  pub sorted : IsPermutation found rows

-- the tables are all that is shown: none of the rows, deletions and conflict notes is left out
pub record TablesShown (shows : Option QueryAnswers) (t : Tables) : Type 0 where
  pub rows : RowsShown shows t.rows
  pub deletions : AreShown StandsForDeletion shows AllDeletions t.deletions
  pub conflicts : AreShown StandsForNote shows AllConflicts t.conflicts
  pub meta : MetaRecord
  pub shown : MetaShown shows meta
  pub holds : HoldsMeta meta t
