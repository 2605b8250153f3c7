-- `conflicts --show`: the text of a conflict note.
use Rattle.std.specs.Prelude.{ℕ, ◌≡◌, Option, Some, None, Result, Ok}
use Rattle.std.specs.List.{find}
use Rattle.item_text.specs.Grammar.{written}
use Rattle.local_store.specs.declared.conflict_note.ConflictNote.{ConflictNote}
use Rattle.local_commands.specs.declared.local_err.LocalErr.{LocalErr}
use Rattle.local_commands.specs.declared.work.Work.{Work}
use Rattle.local_commands.specs.Commands.Clear.{ChecksNumber, has_number}
use Rattle.local_commands.specs.Running.{Plan, of_tables, only_text}

-- the text of the note, with nothing added
abbrev pub MakesShown : Option ConflictNote → Result Work LocalErr → Type 0
MakesShown (Some n) made = made ≡ Ok (only_text (written n.item))
MakesShown None made = ⊥

-- a conflict note of this number has to be there
abbrev pub show_plan : ℕ → Plan
show_plan number = of_tables
    (λ t refusal. ChecksNumber t.conflicts number refusal)
    (λ t made. MakesShown (find (has_number number) t.conflicts) made)
