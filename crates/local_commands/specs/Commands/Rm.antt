-- `rm`: an item goes.
use Rattle.std.specs.Prelude.{ℕ, ◌≡◌, List, [], Option, Some, None, Result, Ok, Err}
use Rattle.local_changes.specs.Makers.{removed}
use Rattle.local_changes.specs.declared.store_err.StoreErr.{StoreErr}
use Rattle.local_store.specs.declared.change.Change.{Change}
use Rattle.local_commands.specs.declared.local_err.LocalErr.{LocalErr}
use Rattle.local_commands.specs.declared.work.Work.{Work}
use Rattle.local_commands.specs.Refusals.{store_refusal}
use Rattle.local_commands.specs.Running.{Plan, of_tables, one_change}

-- why an item stays, if it has to
abbrev pub why_kept : Result Change StoreErr → Option LocalErr
why_kept (Ok change) = None
why_kept (Err e) = Some (store_refusal e)

-- an item is wanted that may go
abbrev pub ChecksRemoval : Result Change StoreErr → Option LocalErr → Type 0
ChecksRemoval due refusal = refusal ≡ why_kept due

-- it goes, and nothing is printed
abbrev pub MakesRemoval : Result Change StoreErr → Result Work LocalErr → Type 0
MakesRemoval (Ok change) made = made ≡ Ok (one_change change [])
MakesRemoval (Err e) made = ⊥

-- the row goes that is there, unless it is a notebook in which something is
abbrev pub rm_plan : List ℕ → Plan
rm_plan id = of_tables
    (λ t refusal. ChecksRemoval (removed t id) refusal)
    (λ t made. MakesRemoval (removed t id) made)
