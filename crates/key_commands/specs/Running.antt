-- What a run of a command on keys comes to. One order holds for all of them: the tables are read; they
-- have to allow the command; bytes of a resource are looked for; the clock shows the time; a key is
-- made; the info is set; the text is printed.
use Rattle.std.specs.Prelude.{ℕ, ◌≡◌, ◌⊎◌, List, Result, Ok, Err}
use Rattle.client.specs.Outside.{AreKeptTables, HasKeeperFailed, OutsideNow}
use Rattle.key_commands.specs.Commands.{RunsKeysOn}
use Rattle.key_commands.specs.declared.key_command.KeyCommand.{KeyCommand}
use Rattle.key_commands.specs.declared.keys_err.KeysErr.{KeysErr}
use Rattle.key_commands.specs.declared.keys_err.KeysErr.TheVariants.{KeeperFault, NoMemory}
use Rattle.local_store.specs.declared.tables.Tables.{Tables}

-- the tables couldn't be read
abbrev pub IsUnread : OutsideNow → Result (List ℕ) KeysErr → OutsideNow → Type 0
IsUnread old (Err KeeperFault) new = HasKeeperFailed old new
IsUnread old (Err NoMemory) new = new ≡ old
IsUnread old result new = ⊥

-- they were, and this came of them
pub record RanOn (command : KeyCommand) (old : OutsideNow) (result : Result (List ℕ) KeysErr) (new : OutsideNow)
    : Type 0 where
  pub tables : Tables
  pub kept : AreKeptTables old.keeper tables
  pub ran : RunsKeysOn command tables old result new

abbrev pub RunsKeys : KeyCommand → OutsideNow → Result (List ℕ) KeysErr → OutsideNow → Type 0
RunsKeys command old result new = IsUnread old result new ⊎ RanOn command old result new
