use Rattle.std.proofs.Common.{ℕ, ◌<◌, map}
use Rattle.run_premises.specs.Between.{IsGapAt}
use Rattle.run_premises.specs.Steps.{history_step}
use Rattle.run_premises.proofs.gap.has_no_gap.Given as goal

abbrev pub invariant-loop-put : goal.invariant-loop-put
invariant-loop-put l = (place : ℕ) → place < l.put → ¬ IsGapAt (map history_step l.steps) place
