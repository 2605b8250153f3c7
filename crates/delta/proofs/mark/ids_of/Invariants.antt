use Rattle.std.proofs.Common.{◌≡◌, take}
use Rattle.delta.specs.Marks.{ids_of}
use Rattle.delta.proofs.mark.ids_of.Given as goal

abbrev pub invariant-loop-mark : goal.invariant-loop-mark
invariant-loop-mark l = l.ids.items ≡ ids_of (take l.mark-index l.marks)
