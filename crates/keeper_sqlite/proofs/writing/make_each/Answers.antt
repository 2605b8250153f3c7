use Rattle.std.proofs.Common.{arith}
use Rattle.std.proofs.lemmas.Grind.{common_steps}
use Rattle.keeper_sqlite.proofs.Speaking.{within_more}
use Rattle.keeper_sqlite.proofs.writing.make_each.Goals as goal

pub loop-write-preserved : goal.loop-write-preserved
loop-write-preserved g c = record {
  said = grind (arith, common_steps);
  within = within_more _ _ _ _ c.loop-write.invariant.within c.in_ok-make.ensures;
}
