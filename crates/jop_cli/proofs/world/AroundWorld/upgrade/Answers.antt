use Rattle.std.proofs.Common.{refl}
use Rattle.jop_cli.proofs.world.AroundWorld.upgrade.Goals as goal

pub returns-clause-upgrades : goal.returns-clause-upgrades
returns-clause-upgrades g c =
    let line = c.upgrade_on.ensures.line in
    record {
      session = c.upgrade_on.ensures.session;
      line = line;
      keeps = c.upgrade_on.ensures.keeps line.more line.trail;
      order = c.upgrade_on.ensures.order line.more line.trail;
      same = refl;
    }
