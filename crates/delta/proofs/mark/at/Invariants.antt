use Rattle.std.proofs.Common.{◌≡◌, take, filter}
use Rattle.delta.specs.Marks.{is_at}
use Rattle.delta.proofs.mark.at.Given as goal

abbrev pub invariant-loop-mark : goal.invariant-loop-mark
invariant-loop-mark l = l.at.items ≡ filter (is_at l.moment) (take l.mark-index l.marks)
