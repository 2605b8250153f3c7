-- `add`: a new note in a notebook.
use Rattle.std.specs.Prelude.{ℕ, ◌≡◌, List, true, false, Some, Result}
use Rattle.local_changes.specs.Makers.{new_note}
use Rattle.local_store.specs.declared.tables.Tables.{Tables}
use Rattle.local_commands.specs.Bodies.{body_intake}
use Rattle.local_commands.specs.Books.{ChecksBook}
use Rattle.local_commands.specs.declared.drawing.Drawing.TheVariants.{OneId}
use Rattle.local_commands.specs.declared.drawing.Ids.{Ids}
use Rattle.local_commands.specs.declared.drawing.Ids.TheVariants as ids
use Rattle.local_commands.specs.declared.work.Work.{Work}
use Rattle.local_commands.specs.Lines.{id_line}
use Rattle.local_commands.specs.declared.local_err.LocalErr.{LocalErr}
use Rattle.local_commands.specs.Running.{Plan}
use Rattle.local_commands.specs.Saving.{saving}

-- the note is saved under the drawn id, which is printed; the input is its body
abbrev pub MakesNote : List ℕ → List ℕ → Tables → List ℕ → ℕ → Ids → Result Work LocalErr → Type 0
MakesNote book title t body now (ids.One id) made =
    made ≡ saving (new_note t id book title body now) (id_line id)
MakesNote book title t body now drawn made = ⊥

abbrev pub add_plan : List ℕ → List ℕ → Plan
add_plan book title = record {
  Checks = λ t refusal. ChecksBook t (Some book) refusal;
  intake = Some body_intake;
  clock = true;
  draws = OneId;
  bytes = false;
  Makes = λ t input now drawn made. MakesNote book title t input now drawn made;
}
