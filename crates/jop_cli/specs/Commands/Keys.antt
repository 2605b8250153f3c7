-- What the commands on master keys come to.
use Rattle.std.specs.Prelude.{ℕ, ◌≡◌, List, Result, Ok, Err}
use Rattle.client.specs.Outside.{OutsideNow}
use Rattle.jop_status.specs.Outcomes.{Outcome}
use Rattle.jop_status.specs.Refusals.{keys_status}
use Rattle.key_commands.specs.Running.{RunsKeys}
use Rattle.key_commands.specs.declared.key_command.KeyCommand.{KeyCommand}
use Rattle.key_commands.specs.declared.keys_err.KeysErr.{KeysErr}

abbrev pub keys_outcome : Result (List ℕ) KeysErr → Outcome
keys_outcome (Ok text) = Ok text
keys_outcome (Err error) = Err (keys_status error)

-- what it came to, from tables, bytes, time and a new key; its text is printed, or its refusal told
pub record DoesKeys (command : KeyCommand) (before : OutsideNow) (outcome : Outcome) (after : OutsideNow)
    : Type 0 where
  pub answer : Result (List ℕ) KeysErr
  pub runs : RunsKeys command before answer after
  pub is : outcome ≡ keys_outcome answer
