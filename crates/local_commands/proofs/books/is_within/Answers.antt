use Rattle.std.proofs.Common.{◌∙◌, arith, sym}
use Rattle.std.proofs.lemmas.Grind.{common_steps}
use Rattle.local_commands.proofs.Places.{within_above}
use Rattle.local_commands.proofs.books.is_within.Goals as goal

pub loop-left-preserved : goal.loop-left-preserved
loop-left-preserved c =
    sym (within_above c.loop-left.left c.args.tables.now c.args.id.now c.loop-left.above
    c.in-Some.parent c.loop-left-test.true (grind (arith, common_steps))
    (sym c.parent_at.ensures ∙ c.in-Some.is)) ∙ c.loop-left.invariant
