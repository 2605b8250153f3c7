use Rattle.std.proofs.Common.{take}
use Rattle.delta.specs.Order.{IsSetOf}
use Rattle.delta.proofs.order.set_of.Given as goal

abbrev pub invariant-loop-item : goal.invariant-loop-item
invariant-loop-item g l = IsSetOf g.T.Ord.cmp (take l.item-index l.items) l.set
