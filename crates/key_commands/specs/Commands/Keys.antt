-- `keys`: the keys of the tables' info.
use Rattle.std.specs.Prelude.{ℕ, ◌≡◌, List, Result, Ok, Err}
use Rattle.client.specs.Outside.{OutsideNow}
use Rattle.key_commands.specs.declared.keys_err.KeysErr.{KeysErr}
use Rattle.key_commands.specs.declared.keys_err.KeysErr.TheVariants.{NoMemory}
use Rattle.key_records.specs.Listing.{keys_text}
use Rattle.sync_info.specs.declared.info.Info.{Info}

-- a line for each is printed, and nothing else was used
abbrev pub ListsKeys : Info → OutsideNow → Result (List ℕ) KeysErr → OutsideNow → Type 0
ListsKeys info old (Ok text) new = (text ≡ keys_text info) × (new ≡ old)
ListsKeys info old (Err NoMemory) new = new ≡ old
ListsKeys info old (Err refusal) new = ⊥
