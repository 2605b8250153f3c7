-- Why a command on keys ended otherwise than well, by the errors of what it stands on.
use Rattle.std.specs.Prelude.{ℕ, List, Result, Ok, Err}
use Rattle.jed_sealing.specs.declared.seal_err.SealErr.{SealErr}
use Rattle.jed_sealing.specs.declared.seal_err.SealErr.TheVariants as seals
use Rattle.keeper.specs.declared.keeper_err.KeeperErr.{KeeperErr}
use Rattle.keeper.specs.declared.keeper_err.KeeperErr.TheVariants as keepers
use Rattle.key_commands.specs.declared.keys_err.KeysErr.{KeysErr}
use Rattle.key_commands.specs.declared.keys_err.KeysErr.TheVariants.{KeeperFault, EntropyFault, Sealed, BadPassword, NoKey, NoMemory}
use Rattle.master_keys.specs.declared.key_err.KeyErr.{KeyErr}
use Rattle.master_keys.specs.declared.key_err.KeyErr.TheVariants as keys

abbrev pub of_keeping : KeeperErr → KeysErr
of_keeping keepers.Fault = KeeperFault
of_keeping keepers.NoMemory = NoMemory

abbrev pub of_making : SealErr → KeysErr
of_making seals.EntropyFault = EntropyFault
of_making seals.NoMemory = NoMemory

-- why the bytes of the resource of an id weren't opened; the last two don't come of an opening of bytes
abbrev pub of_opening : List ℕ → KeyErr → KeysErr
of_opening id (keys.NoKey key) = NoKey key
of_opening id (keys.BadPassword key) = BadPassword key
of_opening id (keys.Jed e) = Sealed id
of_opening id keys.BadItem = Sealed id
of_opening id keys.EntropyFault = Sealed id
of_opening id keys.NoMemory = NoMemory

abbrev pub opened_for : List ℕ → Result (List ℕ) KeyErr → Result (List ℕ) KeysErr
opened_for id (Ok bytes) = Ok bytes
opened_for id (Err e) = Err (of_opening id e)
