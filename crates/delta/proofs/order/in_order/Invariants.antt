use Rattle.std.proofs.Common.{◌≡◌, ◌++◌, length}
use Rattle.delta.proofs.order.in_order.Given as goal

abbrev pub invariant-loop-item : goal.invariant-loop-item
invariant-loop-item g l = l.initial.set.keys ≡ l.rising.items ++ l.set.keys

abbrev pub decreases-loop-item : goal.decreases-loop-item
decreases-loop-item g l = length l.set.keys
