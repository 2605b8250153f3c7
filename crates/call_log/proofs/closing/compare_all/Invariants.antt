use Rattle.std.proofs.Common.{ℕ, ◌<◌}
use Rattle.call_log.specs.Closing.{AgreesAt}
use Rattle.call_log.proofs.closing.compare_all.Given as goal

abbrev pub invariant-loop-index : goal.invariant-loop-index
invariant-loop-index g l =
    (place : ℕ) → place < l.index → AgreesAt g.T.Trailed.trail l.log l.trails place
