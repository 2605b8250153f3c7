-- The commands on keys: what each comes to on tables, by a row.
pub mod Blob
pub mod Keys
pub mod New
pub mod Use
use Rattle.std.specs.Prelude.{ℕ, List, Bool, true, false, Result}
use Rattle.client.specs.Outside.{OutsideNow}
use Rattle.key_commands.specs.Commands.Blob.{ShowsBlob}
use Rattle.key_commands.specs.Commands.Keys.{ListsKeys}
use Rattle.key_commands.specs.Commands.New.{MakesNew}
use Rattle.key_commands.specs.Commands.Use.{UsesKey}
use Rattle.key_commands.specs.declared.key_command.KeyCommand.{KeyCommand}
use Rattle.key_commands.specs.declared.key_command.KeyCommand.TheVariants as commands
use Rattle.key_commands.specs.declared.keys_err.KeysErr.{KeysErr}
use Rattle.local_store.specs.declared.tables.Tables.{Tables}

-- what a command comes to, once the tables were read
abbrev pub RunsKeysOn : KeyCommand → Tables → OutsideNow → Result (List ℕ) KeysErr → OutsideNow → Type 0
RunsKeysOn (commands.Blob id password) t old result new = ShowsBlob id password t old result new
RunsKeysOn commands.List t old result new = ListsKeys t.info old result new
RunsKeysOn (commands.New password) t old result new = MakesNew password t.info old result new
RunsKeysOn (commands.Use id) t old result new = UsesKey id t.info old result new

-- ---- what a command uses beside the tables

abbrev pub asks_clock : KeyCommand → Bool
asks_clock (commands.New password) = true
asks_clock (commands.Use id) = true
asks_clock command = false

abbrev pub draws_bytes : KeyCommand → Bool
draws_bytes (commands.New password) = true
draws_bytes command = false
