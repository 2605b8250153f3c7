-- What every command on keys leaves, whatever it answers.
use Rattle.std.specs.Prelude.{ℕ, ◌≡◌, ◌⊎◌, List, Bool, true, false, Result, Ok, Err}
use Rattle.client.specs.Outside.{OutsideNow}
use Rattle.key_commands.specs.Commands.{asks_clock, draws_bytes}
use Rattle.key_commands.specs.Running.{RunsKeys}
use Rattle.key_commands.specs.Stages.{IsSet}
use Rattle.key_commands.specs.declared.key_command.KeyCommand.{KeyCommand}
use Rattle.key_commands.specs.declared.keys_err.KeysErr.{KeysErr}
use Rattle.key_commands.specs.declared.keys_err.KeysErr.TheVariants.{KeeperFault, NoMemory}
use Rattle.local_commands.specs.Sparing.{SparesClock, SparesRandom}
use Rattle.sync_info.specs.Info.{IsInfo}
use Rattle.sync_info.specs.declared.info.Info.{Info}

-- nothing is saved and nothing is written down; neither the input was used, nor the output
pub record IsStill (old new : OutsideNow) : Type 0 where
  pub line : new.line ≡ old.line
  pub made : new.made ≡ old.made
  pub kept : new.keeper.kept ≡ old.keeper.kept
  pub input : new.input ≡ old.input
  pub out : new.out ≡ old.out

-- that was so up to the one change that was made: the info was set
pub record HasSetInfo (old new : OutsideNow) : Type 0 where
  pub info : Info
  pub mid : OutsideNow
  pub still : IsStill old mid
  pub faults : mid.keeper ≡ old.keeper
  pub set : IsSet info mid new

-- nothing is changed but the info
abbrev pub ChangesInfo : OutsideNow → OutsideNow → Type 0
ChangesInfo old new = IsStill old new ⊎ HasSetInfo old new

-- what a command doesn't use is as it was
pub record SparesBeside (command : KeyCommand) (old new : OutsideNow) : Type 0 where
  pub clock : SparesClock (asks_clock command) old.clock new.clock
  pub random : SparesRandom (draws_bytes command) old.entropy new.entropy

-- it was refused, by a refusal that comes before anything is saved
abbrev pub IsEarlyRefusal : Result (List ℕ) KeysErr → Type 0
IsEarlyRefusal (Ok text) = ⊥
IsEarlyRefusal (Err KeeperFault) = ⊥
IsEarlyRefusal (Err NoMemory) = ⊥
IsEarlyRefusal (Err refusal) = Unit {0}

-- this holds of each run of each command
abbrev pub OfEachKeyRun : (KeyCommand → OutsideNow → Result (List ℕ) KeysErr → OutsideNow → Type 0) → Type 0
OfEachKeyRun Holds =
    (command : KeyCommand) (old new : OutsideNow) (answer : Result (List ℕ) KeysErr)
    → RunsKeys command old answer new → Holds command old answer new
