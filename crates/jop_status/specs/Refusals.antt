-- The refusals of what commands stand on, each as a status.
use Rattle.key_commands.specs.declared.keys_err.KeysErr.{KeysErr}
use Rattle.key_commands.specs.declared.keys_err.KeysErr.TheVariants as keys_errors
use Rattle.local_commands.specs.declared.local_err.LocalErr.{LocalErr}
use Rattle.local_commands.specs.declared.local_err.LocalErr.TheVariants as local_errors
use Rattle.client.specs.declared.own_err.OwnErr.{OwnErr}
use Rattle.client.specs.declared.own_err.OwnErr.TheVariants as own_errors
use Rattle.sync_run.specs.declared.session_err.SessionErr.{SessionErr}
use Rattle.sync_run.specs.declared.session_err.SessionErr.TheVariants as session_errors
use Rattle.jop_status.specs.declared.status.Status.{Status}
use Rattle.jop_status.specs.declared.status.Status.TheVariants as statuses

-- why there is no client's id
abbrev pub own_status : OwnErr → Status
own_status own_errors.KeeperFault = statuses.KeeperFault
own_status own_errors.EntropyFault = statuses.EntropyFault
own_status own_errors.NoMemory = statuses.NoMemory

-- why a check or an upgrade ended
abbrev pub session_status : SessionErr → Status
session_status (session_errors.Busy lock now) = statuses.Busy lock now
session_status (session_errors.LeaseLost seen) = statuses.LeaseLost seen
session_status (session_errors.Refused why) = statuses.Refused why
session_status session_errors.TargetFault = statuses.TargetFault
session_status session_errors.NoMemory = statuses.NoMemory

-- why a command on the tables ended otherwise than well
abbrev pub local_status : LocalErr → Status
local_status local_errors.KeeperFault = statuses.KeeperFault
local_status local_errors.SourceFault = statuses.SourceFault
local_status local_errors.ClockFault = statuses.ClockFault
local_status local_errors.EntropyFault = statuses.EntropyFault
local_status (local_errors.NotFound id) = statuses.NotFound id
local_status (local_errors.NotOne count) = statuses.NotOne count
local_status (local_errors.Sealed id) = statuses.Sealed id
local_status (local_errors.TimeEnd id) = statuses.TimeEnd id
local_status (local_errors.NotEmpty id) = statuses.NotEmpty id
local_status (local_errors.BelowItself id) = statuses.BelowItself id
local_status (local_errors.NoConflict number) = statuses.NoConflict number
local_status (local_errors.TooLarge len) = statuses.TooLarge len
local_status local_errors.NotText = statuses.NotText
local_status local_errors.NoMemory = statuses.NoMemory

-- why a command on master keys ended otherwise than well
abbrev pub keys_status : KeysErr → Status
keys_status keys_errors.KeeperFault = statuses.KeeperFault
keys_status keys_errors.ClockFault = statuses.ClockFault
keys_status keys_errors.EntropyFault = statuses.EntropyFault
keys_status (keys_errors.NotFound id) = statuses.NotFound id
keys_status (keys_errors.NotOne count) = statuses.NotOne count
keys_status (keys_errors.Sealed id) = statuses.Sealed id
keys_status (keys_errors.BadPassword key) = statuses.BadPassword key
keys_status (keys_errors.NoKey key) = statuses.NoKey key
keys_status keys_errors.NoMemory = statuses.NoMemory
