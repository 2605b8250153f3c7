use Rattle.std.proofs.Common.{◌≡◌, drop}
use Rattle.delta.specs.Marks.{latest}
use Rattle.delta.proofs.mark.latest.Given as goal

abbrev pub invariant-loop-mark : goal.invariant-loop-mark
invariant-loop-mark l = latest l.latest (drop l.mark-index l.marks) ≡ latest l.fn.moment l.marks
