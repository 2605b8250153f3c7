use Rattle.std.proofs.Common.{◌≡◌, drop}
use Rattle.delta.specs.Order.{includes}
use Rattle.conflicts.proofs.report.has.Given as goal

abbrev pub invariant-loop-other : goal.invariant-loop-other
invariant-loop-other l = includes l.ids l.id ≡ includes (drop l.other-index l.ids) l.id
