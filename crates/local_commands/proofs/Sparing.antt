-- What is left alone where the tables weren't read.
use Rattle.std.specs.Prelude.{Err}
use Rattle.std.proofs.Common.{arith}
use Rattle.std.proofs.lemmas.Grind.{common_steps}
use Rattle.client.specs.Outside.{OutsideNow, ReadsTables}
use Rattle.keeper.specs.declared.keeper_err.KeeperErr.{KeeperErr}
use Rattle.keeper.specs.declared.keeper_err.KeeperErr.TheVariants.{Fault, NoMemory}
use Rattle.local_commands.specs.Running.{Plan}
use Rattle.local_commands.specs.Sparing.{Spares}

pub unread_spared : (p : Plan) (old new : OutsideNow) (e : KeeperErr) → ReadsTables old (Err e) new
    → Spares p old new
unread_spared p old new Fault failed = grind (arith, common_steps)
unread_spared p old new NoMemory same = grind (arith, common_steps)
