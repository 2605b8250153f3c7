-- The statements that make the writes of a change, and the tables of a new file.
use Rattle.std.specs.Prelude.{ℕ, pos, ◌^◌, List, [], ◌∷◌, ◌++◌, if◌then◌else◌, nat_lt, decimal, Option}
use Rattle.sqlite.specs.Values.{or_null}
use Rattle.sqlite_value.specs.declared.value.Value.{Value}
use Rattle.sqlite_value.specs.declared.value.Value.TheVariants.{Int, Text, Blob}
use Rattle.item_text.specs.Grammar.{written}
use Rattle.sync_info.specs.Json.{info_text}
use Rattle.local_store.specs.Rows.{item_of}
use Rattle.local_store.specs.Tables.{new_tables}
use Rattle.local_store.specs.declared.conflict_note.ConflictNote.{ConflictNote}
use Rattle.local_store.specs.declared.deletion.Deletion.{Deletion}
use Rattle.local_store.specs.declared.row.Row.{Row}
use Rattle.local_store.specs.declared.tables.Tables.{Tables}
use Rattle.keeper_columns.specs.Columns.{flag, id_digits}
use Rattle.keeper_columns.specs.Holding.{is_sealed_content}
use Rattle.keeper_columns.specs.declared.deletion_record.DeletionRecord.{DeletionRecord}
use Rattle.keeper_columns.specs.declared.note_record.NoteRecord.{NoteRecord}
use Rattle.keeper_columns.specs.declared.row_record.RowRecord.{RowRecord}
use Rattle.keeper_records.specs.declared.write.Write.{Write}
use Rattle.keeper_records.specs.declared.write.Write.TheVariants.{SetRow, DropRow, SetDeletion, DropDeletion, AddConflict, DropConflict, SetNext, SetClient, SetContext, SetInfo}
use Rattle.keeper_sqlite.specs.declared.said.Said.{Said}
use Rattle.keeper_sqlite.specs.declared.statement.Statement.{Statement}
use Rattle.keeper_sqlite.specs.declared.statement.Statement.TheVariants as statement
use Rattle.keeper_sqlite.specs.Speaking.{Spoken, saying}

-- a statement with its values, as a list of one
abbrev pub said : Statement → List Value → List Said
said name values = record { statement = name; values = values } ∷ []

-- ---- the columns of records

abbrev pub row_columns : RowRecord → List Value
row_columns s =
    Text s.id ∷ Int s.sealed ∷ Blob s.content ∷ or_null Blob s.base ∷ Int s.pending ∷ []

abbrev pub deletion_columns : DeletionRecord → List Value
deletion_columns s = Text s.id ∷ Int s.resource ∷ []

abbrev pub note_columns : NoteRecord → List Value
note_columns s = Int s.number ∷ Text s.note ∷ Blob s.content ∷ []

-- ---- the values of what is written

-- the id, whether the item is sealed, its text, the base, and whether the row waits
abbrev pub row_values : Row → List Value
row_values r =
    Text r.id ∷ Int (flag (is_sealed_content r.content)) ∷ Blob (written (item_of r.content))
    ∷ or_null Blob r.base ∷ Int (flag r.pending) ∷ []

abbrev pub deletion_values : Deletion → List Value
deletion_values d = Text d.id ∷ Int (flag d.resource) ∷ []

abbrev pub note_values : ConflictNote → List Value
note_values n = Int (pos n.number) ∷ Text n.note ∷ Blob (written n.item) ∷ []

-- ---- the statements of writes

-- What goes for an id may be the last that asks for the bytes of its resource. No conflict note has
-- a number past 2^63 - 1.
abbrev pub statements_of : Write → List Said
statements_of (SetRow row) = said statement.SetRow (row_values row)
statements_of (DropRow id) =
    said statement.DropRow (Text id ∷ []) ++ said statement.DropBytes (Text id ∷ [])
statements_of (SetDeletion deletion) = said statement.SetDeletion (deletion_values deletion)
statements_of (DropDeletion id) =
    said statement.DropDeletion (Text id ∷ []) ++ said statement.DropBytes (Text id ∷ [])
statements_of (AddConflict note) = said statement.AddConflict (note_values note)
statements_of (DropConflict number) =
    if nat_lt number (2 ^ 63) then said statement.DropConflict (Int (pos number) ∷ []) else []
statements_of (SetNext number) = said statement.SetNext (Blob (decimal number) ∷ [])
statements_of (SetClient client) = said statement.SetClient (Blob client ∷ [])
statements_of (SetContext context) =
    said statement.SetContext (Blob (decimal context.moment) ∷ Blob (id_digits context.seen) ∷ [])
statements_of (SetInfo info) = said statement.SetInfo (Blob (info_text info) ∷ [])

-- those of a list of writes, the first one first
abbrev pub all_statements : List Write → List Said
all_statements [] = []
all_statements (w ∷ ws) = statements_of w ++ all_statements ws

-- once those of each write are said, one write after the other
abbrev pub saying_all : List Write → Option Spoken → Option Spoken
saying_all [] now = now
saying_all (w ∷ ws) now = saying_all ws (saying (statements_of w) now)

-- the bytes of the resource of an id
abbrev pub blob_statement : List ℕ → List ℕ → List Said
blob_statement id bytes = said statement.SetBlob (Text id ∷ Blob bytes ∷ [])

-- ---- a new file

-- statements without values
abbrev pub bare_statements : List Statement → List Said
bare_statements [] = []
bare_statements (s ∷ ss) = said s [] ++ bare_statements ss

abbrev pub table_statements : List Statement
table_statements =
    statement.MakeMeta ∷ statement.MakeRows ∷ statement.MakeDeletions ∷ statement.MakeConflicts
    ∷ statement.MakeBlobs ∷ []

-- what is written of tables that have no rows, deletions and conflict notes
abbrev pub key_writes : Tables → List Write
key_writes t = SetNext t.next_conflict ∷ SetContext t.context ∷ SetInfo t.info ∷ []

-- once each is said
abbrev pub saying_bare : List Statement → Option Spoken → Option Spoken
saying_bare [] now = now
saying_bare (s ∷ ss) now = saying_bare ss (saying (said s []) now)

-- the tables, and what a new client knows
abbrev pub first_statements : List Said
first_statements = bare_statements table_statements ++ all_statements (key_writes new_tables)
