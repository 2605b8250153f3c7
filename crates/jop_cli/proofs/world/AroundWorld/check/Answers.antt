use Rattle.std.proofs.Common.{refl}
use Rattle.jop_cli.proofs.world.AroundWorld.check.Goals as goal

pub returns-clause-checks : goal.returns-clause-checks
returns-clause-checks g c =
    let line = c.check_on.ensures.line in
    record {
      session = c.check_on.ensures.session;
      line = line;
      keeps = c.check_on.ensures.keeps line.more line.trail;
      same = refl;
    }
