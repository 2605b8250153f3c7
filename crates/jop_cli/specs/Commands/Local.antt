-- What the commands on this machine's own tables come to.
use Rattle.std.specs.Prelude.{ℕ, ◌≡◌, List, Result, Ok, Err}
use Rattle.client.specs.Outside.{OutsideNow}
use Rattle.jop_status.specs.Outcomes.{Outcome}
use Rattle.jop_status.specs.Refusals.{local_status}
use Rattle.local_commands.specs.Commands.{plan_of}
use Rattle.local_commands.specs.Running.{Runs}
use Rattle.local_commands.specs.Sparing.{Spares}
use Rattle.local_commands.specs.declared.command.LocalCommand.{LocalCommand}
use Rattle.local_commands.specs.declared.local_err.LocalErr.{LocalErr}

abbrev pub local_outcome : Result (List ℕ) LocalErr → Outcome
local_outcome (Ok text) = Ok text
local_outcome (Err error) = Err (local_status error)

-- what it came to, from tables, input, time and ids; its text is printed, or its refusal told
pub record DoesLocally (command : LocalCommand) (before : OutsideNow) (outcome : Outcome)
    (after : OutsideNow) : Type 0 where
  pub answer : Result (List ℕ) LocalErr
  pub runs : Runs (plan_of command) before answer after
  pub spares : Spares (plan_of command) before after
  pub is : outcome ≡ local_outcome answer
