-- Why a command ended otherwise than well, by the errors of what it stands on.
use Rattle.keeper.specs.declared.keeper_err.KeeperErr.{KeeperErr}
use Rattle.keeper.specs.declared.keeper_err.KeeperErr.TheVariants as keeper_errors
use Rattle.local_changes.specs.declared.store_err.StoreErr.{StoreErr}
use Rattle.local_changes.specs.declared.store_err.StoreErr.TheVariants as store_errors
use Rattle.local_commands.specs.declared.local_err.LocalErr.{LocalErr}
use Rattle.local_commands.specs.declared.local_err.LocalErr.TheVariants.{KeeperFault, NotFound, Sealed, TimeEnd, NotEmpty, TooLarge, NoMemory}

-- why a command ended, where the keeper refused
abbrev pub keeper_refusal : KeeperErr → LocalErr
keeper_refusal keeper_errors.Fault = KeeperFault
keeper_refusal keeper_errors.NoMemory = NoMemory

-- why a command ended, where no change could be made
abbrev pub store_refusal : StoreErr → LocalErr
store_refusal (store_errors.NotFound id) = NotFound id
store_refusal (store_errors.Sealed id) = Sealed id
store_refusal (store_errors.TimeEnd id) = TimeEnd id
store_refusal (store_errors.NotEmpty id) = NotEmpty id
store_refusal (store_errors.TooLarge len) = TooLarge len
store_refusal store_errors.NoMemory = NoMemory
