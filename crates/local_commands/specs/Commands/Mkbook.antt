-- `mkbook`: a new notebook, at the top or in another one.
use Rattle.std.specs.Prelude.{ℕ, ◌≡◌, List, true, false, Option, None, Result}
use Rattle.local_changes.specs.Makers.{new_book}
use Rattle.local_store.specs.declared.tables.Tables.{Tables}
use Rattle.local_commands.specs.Books.{ChecksBook}
use Rattle.local_commands.specs.declared.drawing.Drawing.TheVariants.{OneId}
use Rattle.local_commands.specs.declared.drawing.Ids.{Ids}
use Rattle.local_commands.specs.declared.drawing.Ids.TheVariants as ids
use Rattle.local_commands.specs.declared.work.Work.{Work}
use Rattle.local_commands.specs.Lines.{id_line}
use Rattle.local_commands.specs.declared.local_err.LocalErr.{LocalErr}
use Rattle.local_commands.specs.Running.{Plan}
use Rattle.local_commands.specs.Saving.{saving}

-- the notebook is saved under the drawn id, which is printed
abbrev pub MakesBook : List ℕ → Option (List ℕ) → Tables → ℕ → Ids
    → Result Work LocalErr → Type 0
MakesBook title parent t now (ids.One id) made =
    made ≡ saving (new_book t id parent title now) (id_line id)
MakesBook title parent t now drawn made = ⊥

abbrev pub mkbook_plan : List ℕ → Option (List ℕ) → Plan
mkbook_plan title parent = record {
  Checks = λ t refusal. ChecksBook t parent refusal;
  intake = None;
  clock = true;
  draws = OneId;
  bytes = false;
  Makes = λ t input now drawn made. MakesBook title parent t now drawn made;
}
