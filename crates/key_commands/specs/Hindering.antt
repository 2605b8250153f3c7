-- A command on keys that nothing hinders.
use Rattle.std.specs.Prelude.{ℕ, ◌≡◌, ◌⊎◌, List, true, Option, Some, None, Result, Ok, Err, IsOk}
use Rattle.std.specs.List.{list_any}
use Rattle.client.specs.Outside.{OutsideNow}
use Rattle.jop_outside.specs.Outside.{HasRisen}
use Rattle.keeper.specs.Keepers.{Kept, blob_at}
use Rattle.key_commands.specs.Commands.Blob.{resource_meant, shown_bytes}
use Rattle.key_commands.specs.declared.key_command.KeyCommand.{KeyCommand}
use Rattle.key_commands.specs.declared.key_command.KeyCommand.TheVariants as commands
use Rattle.key_commands.specs.declared.keys_err.KeysErr.{KeysErr}
use Rattle.key_commands.specs.declared.keys_err.KeysErr.TheVariants.{NoMemory}
use Rattle.local_store.specs.declared.row.Row.{Row}
use Rattle.sync_info.specs.Info.{has_id}
use Rattle.sync_info.specs.declared.info.Info.{Info}

-- what is shown of the resource that was found, by what is kept
abbrev pub shown_kept : Kept → Option (List ℕ) → Result Row KeysErr → Result (List ℕ) KeysErr
shown_kept k password (Err refusal) = Err refusal
shown_kept k password (Ok r) = shown_bytes k.tables.info password r (blob_at k r.id)

-- what is kept allows the command: a resource that is meant can be shown, a key that is to be used is there
abbrev pub AllowsKeys : Kept → KeyCommand → Type 0
AllowsKeys k (commands.Blob id password) = IsOk (shown_kept k password (resource_meant k.tables id))
AllowsKeys k commands.List = Unit {0}
AllowsKeys k (commands.New password) = Unit {0}
AllowsKeys k (commands.Use id) = list_any (has_id id) k.tables.info.keys ≡ true

-- the keeper tells what allows the command, and no count of faults rises
pub record IsKeyUnhindered (command : KeyCommand) (old new : OutsideNow) : Type 0 where
  pub kept : Kept
  pub told : old.keeper.kept ≡ Some kept
  pub allowed : AllowsKeys kept command
  pub keeper : ¬ HasRisen old.keeper.faults new.keeper.faults
  pub clock : ¬ HasRisen old.clock.faults new.clock.faults
  pub entropy : ¬ HasRisen old.entropy.faults new.entropy.faults

-- it went well, or memory ran out
abbrev pub IsDoneOrMemory : Result (List ℕ) KeysErr → Type 0
IsDoneOrMemory answer = IsOk answer ⊎ (answer ≡ Err NoMemory)
