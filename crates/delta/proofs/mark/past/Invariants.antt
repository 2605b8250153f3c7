use Rattle.std.proofs.Common.{◌≡◌, take, filter}
use Rattle.delta.specs.Sets.{is_past}
use Rattle.delta.proofs.mark.past.Given as goal

abbrev pub invariant-loop-mark : goal.invariant-loop-mark
invariant-loop-mark l = l.new.items ≡ filter (is_past l.moment l.seen) (take l.mark-index l.marks)
