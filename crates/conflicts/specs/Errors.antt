-- Why a step of a session gives nothing.
use Rattle.keeper.specs.declared.keeper_err.KeeperErr.{KeeperErr}
use Rattle.keeper.specs.declared.keeper_err.KeeperErr.TheVariants as keeper_errors
use Rattle.conflicts.specs.declared.error.StepErr.{StepErr}
use Rattle.conflicts.specs.declared.error.StepErr.TheVariants.{KeeperFault, NoMemory}

abbrev pub step_err : KeeperErr → StepErr
step_err keeper_errors.Fault = KeeperFault
step_err keeper_errors.NoMemory = NoMemory
