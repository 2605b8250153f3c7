use Rattle.std.proofs.Common.{arith}
use Rattle.jed_text.proofs.Widening.{widen_step, widen_end}
use Rattle.jed_text.proofs.units.widen.Goals as goal

pub loop-n-preserved : goal.loop-n-preserved
loop-n-preserved c = widen_step c.loop-n.units c.args.bytes.now c.loop-n.n c.from.result (omega arith) (omega arith) c.loop-n.invariant c.from.ensures

pub returns : goal.returns
returns c = widen_end c.loop-n.units c.args.bytes.now c.loop-n.n (omega arith) (omega arith) c.loop-n.invariant
