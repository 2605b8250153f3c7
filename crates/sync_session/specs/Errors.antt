-- What the errors of its parts are for a sync.
use Rattle.conflicts.specs.declared.error.StepErr.{StepErr}
use Rattle.conflicts.specs.declared.error.StepErr.TheVariants as step_errors
use Rattle.lease.specs.declared.error.LeaseErr.{LeaseErr}
use Rattle.lease.specs.declared.error.LeaseErr.TheVariants as lease_errors
use Rattle.keeper.specs.declared.keeper_err.KeeperErr.{KeeperErr}
use Rattle.keeper.specs.declared.keeper_err.KeeperErr.TheVariants as keeper_errors
use Rattle.sync_session.specs.declared.sync_err.SyncErr.{SyncErr}
use Rattle.sync_session.specs.declared.sync_err.SyncErr.TheVariants.{Busy, LeaseLost, Refused, TargetFault, KeeperFault, NoMemory}

abbrev pub of_keeper : KeeperErr → SyncErr
of_keeper keeper_errors.Fault = KeeperFault
of_keeper keeper_errors.NoMemory = NoMemory

abbrev pub of_lease : LeaseErr → SyncErr
of_lease (lease_errors.Busy lock now) = Busy lock now
of_lease (lease_errors.Lost seen) = LeaseLost seen
of_lease lease_errors.TargetFault = TargetFault
of_lease lease_errors.NoMemory = NoMemory

abbrev pub of_step : StepErr → SyncErr
of_step (step_errors.Lost seen) = LeaseLost seen
of_step step_errors.TargetFault = TargetFault
of_step step_errors.KeeperFault = KeeperFault
of_step (step_errors.Refused why) = Refused why
of_step step_errors.NoMemory = NoMemory
