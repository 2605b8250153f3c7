-- `conflicts --clear`: a conflict note that the user has done with goes.
use Rattle.std.specs.Prelude.{ℕ, ◌≡◌, List, [], Bool, nat_eq, if◌then◌else◌, Option, Some, None, Ok}
use Rattle.std.specs.List.{list_any}
use Rattle.local_store.specs.declared.change.Change.TheVariants.{Cleared}
use Rattle.local_store.specs.declared.conflict_note.ConflictNote.{ConflictNote}
use Rattle.local_commands.specs.declared.local_err.LocalErr.{LocalErr}
use Rattle.local_commands.specs.declared.local_err.LocalErr.TheVariants.{NoConflict}
use Rattle.local_commands.specs.Running.{Plan, of_tables, one_change}

-- the note has this number
abbrev pub has_number : ℕ → ConflictNote → Bool
has_number number n = nat_eq n.number number

-- a conflict note of this number has to be there
abbrev pub ChecksNumber : List ConflictNote → ℕ → Option LocalErr → Type 0
ChecksNumber notes number refusal =
    refusal ≡ (if list_any (has_number number) notes then None else Some (NoConflict number))

abbrev pub clear_plan : ℕ → Plan
clear_plan number = of_tables
    (λ t refusal. ChecksNumber t.conflicts number refusal)
    (λ t made. made ≡ Ok (one_change (Cleared number) []))
