-- What the columns of rows stand for.
use Rattle.std.specs.Prelude.{◌≡◌, List, [], ◌∷◌, ◌++◌, Option, Some, None, refl}
use Rattle.std.proofs.Common.{sym, subst}
use Rattle.std.specs.List.Sorted.{IsPermutation}
use Rattle.sqlite_value.specs.declared.value.Value.{Value}
use Rattle.item_text.specs.Grammar.{written}
use Rattle.local_store.specs.Rows.{item_of}
use Rattle.local_store.specs.declared.conflict_note.ConflictNote.{ConflictNote}
use Rattle.local_store.specs.declared.deletion.Deletion.{Deletion}
use Rattle.local_store.specs.declared.row.Row.{Row}
use Rattle.keeper_columns.specs.Holding.{HoldsRow, HoldsDeletion, HoldsNote}
use Rattle.keeper_columns.specs.declared.deletion_record.DeletionRecord.{DeletionRecord}
use Rattle.keeper_columns.specs.declared.note_record.NoteRecord.{NoteRecord}
use Rattle.keeper_columns.specs.declared.row_record.RowRecord.{RowRecord}
use Rattle.keeper_file.specs.declared.layout.Layout.{Layout}
use Rattle.keeper_sqlite.specs.declared.query.Query.TheVariants.{AllRows}
use Rattle.keeper_sqlite.specs.Answers.{QueryAnswers, DatabaseNow, IsRowRecord, IsDeletionRecord, IsNoteRecord, StandsForRow, StandsForDeletion, StandsForNote, TakenFrom, IsTakenUpTo, GivesNext, AreTaken, AreShown, RowsShown, IsLayoutShown}
use Rattle.keeper_sqlite.specs.Opening.{FillsBlank, HasTables}
use Rattle.keeper_sqlite.specs.Statements.{row_columns, row_values, deletion_columns, deletion_values, note_columns, note_values}

-- ---- records that hold a value

pub row_stands : (columns : List Value) (s : RowRecord) (r : Row)
    → IsRowRecord columns s → HoldsRow s r → StandsForRow columns r
row_stands columns s r is holds = record { kept = s; read = is; holds = holds }

pub deletion_stands : (columns : List Value) (s : DeletionRecord) (d : Deletion)
    → IsDeletionRecord columns s → HoldsDeletion s d → StandsForDeletion columns d
deletion_stands columns s d is holds = record { kept = s; read = is; holds = holds }

pub note_stands : (columns : List Value) (s : NoteRecord) (n : ConflictNote)
    → IsNoteRecord columns s → HoldsNote s n → StandsForNote columns n
note_stands columns s n is holds = record { kept = s; read = is; holds = holds }

-- ---- answers that are read one row at a time

-- a row more
step : {T : Type 0} (stands : List Value → T → Type 0) (rows : List (List Value)) (values : List T)
    (row : List Value) (rest : List (List Value)) (value : T)
    → TakenFrom stands rows values (row ∷ rest) → stands row value
    → TakenFrom stands rows (values ++ value ∷ []) rest
step stands [] [] row rest value taken is = cc
step stands (r ∷ rows) [] row rest value taken is =
    let first : row ≡ r = cc in
    let others : rest ≡ rows = cc in
    (subst (λ x. stands x value) first is, others)
step stands [] (v ∷ values) row rest value taken is = absurd taken
step stands (r ∷ rows) (v ∷ values) row rest value taken is =
    (taken.0, step stands rows values row rest value taken.1 is)

pub none_taken : {T : Type 0} (stands : List Value → T → Type 0) (left : Option (List (List Value)))
    → IsTakenUpTo stands left [] left
none_taken stands None = refl
none_taken stands (Some rows) = refl

pub one_more : {T : Type 0} (stands : List Value → T → Type 0)
    (old mid after : Option (List (List Value))) (values new : List T) (value : T)
    → IsTakenUpTo stands old values mid → GivesNext stands mid (Some value) after
    → new ≡ values ++ value ∷ [] → IsTakenUpTo stands old new after
one_more stands None mid after values new value taken gives is =
    subst (λ o. GivesNext stands o (Some value) after) taken gives
one_more stands (Some rows) None after values new value taken gives is = absurd taken
one_more stands (Some rows) (Some []) after values new value taken gives is = cc
one_more stands (Some rows) (Some (row ∷ rest)) after values new value taken gives is =
    subst (λ o. IsTakenUpTo stands (Some rows) new o) (sym gives.1)
    (subst (λ vs. TakenFrom stands rows vs rest) (sym is)
    (step stands rows values row rest value taken gives.0))

pub no_more : {T : Type 0} (stands : List Value → T → Type 0)
    (old mid after : Option (List (List Value))) (values : List T)
    → IsTakenUpTo stands old values mid → GivesNext stands mid None after
    → AreTaken stands old values
no_more stands None mid after values taken gives = tt
no_more stands (Some rows) None after values taken gives = absurd taken
no_more stands (Some rows) (Some []) after values taken gives = taken
no_more stands (Some rows) (Some (row ∷ rest)) after values taken gives = absurd gives

-- ---- what is read

pub rows_shown : (shows : Option QueryAnswers) (found rows : List Row)
    → AreShown StandsForRow shows AllRows found → IsPermutation found rows → RowsShown shows rows
rows_shown shows found rows shown sorted =
    record { found = found; shown = shown; sorted = sorted }

pub has_tables : (before mid after : DatabaseNow) (found : Layout)
    → IsLayoutShown before.layout found → mid ≡ before
    → FillsBlank found mid.spoken after.spoken → HasTables before after
has_tables before mid after found shown same fills = record {
  found = found;
  shown = shown;
  fills = subst (λ (now : DatabaseNow). FillsBlank found now.spoken after.spoken) same fills;
}

-- ---- the values of statements

pub row_columns_are : (s : RowRecord) (r : Row) → HoldsRow s r
    → s.content ≡ written (item_of r.content) → row_columns s ≡ row_values r
row_columns_are s r holds content =
    let id : s.id ≡ r.id = holds.id in
    let sealed = holds.sealed in
    let base = holds.base in
    let pending = holds.pending in
    cc

pub deletion_columns_are : (s : DeletionRecord) (d : Deletion) → HoldsDeletion s d
    → deletion_columns s ≡ deletion_values d
deletion_columns_are s d holds =
    let id = holds.id in
    let resource = holds.resource in
    cc

pub note_columns_are : (s : NoteRecord) (n : ConflictNote) → HoldsNote s n
    → s.content ≡ written n.item → note_columns s ≡ note_values n
note_columns_are s n holds content =
    let number = holds.number in
    let note = holds.note in
    cc
