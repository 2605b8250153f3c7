-- What a command comes to, and what is printed of it.
use Rattle.std.specs.Prelude.{ℕ, ◌≡◌, ◌⊎◌, List, true, Result, Ok, Err}
use Rattle.jop_outside.specs.Outside.{SinkNow}
use Rattle.jop_outside.specs.Writing.{WasCut, WasWritten}
use Rattle.jop_status.specs.Statuses.{is_early}
use Rattle.jop_status.specs.declared.status.Status.{Status}
use Rattle.jop_status.specs.declared.status.Status.TheVariants as statuses

-- the text that is printed, or the status for which nothing is
abbrev pub Outcome : Type 0
Outcome = Result (List ℕ) Status

-- The text of an outcome is printed whole; or the output has failed, and a prefix of it is printed.
-- Of a refusal nothing is printed.
abbrev pub Emits : Outcome → SinkNow → Status → SinkNow → Type 0
Emits (Ok text) before status after =
    ((status ≡ statuses.Ok) × WasWritten before text after)
    ⊎ ((status ≡ statuses.SinkFault) × WasCut before text after)
Emits (Err error) before status after =
    (status ≡ error) × (is_early error ≡ true) × (after ≡ before)
