use Rattle.std.proofs.Common.{arith}
use Rattle.std.proofs.lemmas.Grind.{common_steps}
use Rattle.keeper_sqlite.proofs.Speaking.{within_more}
use Rattle.keeper_sqlite.proofs.new_tables.run_each.Goals as goal

pub loop-statement-preserved : goal.loop-statement-preserved
loop-statement-preserved g c = record {
  said = grind (arith, common_steps);
  within = within_more _ _ _ _ c.loop-statement.invariant.within c.in_ok-run.ensures;
}
