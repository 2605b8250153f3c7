-- The change that saves a new or edited item, once the tables allow it.
use Rattle.std.specs.Prelude.{ℕ, List, Result, Ok, Err}
use Rattle.local_changes.specs.declared.store_err.StoreErr.{StoreErr}
use Rattle.local_store.specs.declared.change.Change.{Change}
use Rattle.local_commands.specs.declared.local_err.LocalErr.{LocalErr}
use Rattle.local_commands.specs.declared.work.Work.{Work}
use Rattle.local_commands.specs.Refusals.{store_refusal}
use Rattle.local_commands.specs.Running.{one_change}

-- the change is made, and this is printed; or it is refused
abbrev pub saving : Result Change StoreErr → List ℕ → Result Work LocalErr
saving (Ok change) text = Ok (one_change change text)
saving (Err e) text = Err (store_refusal e)
