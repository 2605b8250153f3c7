use Rattle.std.proofs.Common.{map}
use Rattle.run_premises.specs.Between.{turns_for}
use Rattle.run_premises.specs.Steps.{history_step}
use Rattle.run_premises.proofs.Walks.{IsWalked}
use Rattle.run_premises.proofs.gap.is_crossed.Given as goal

abbrev pub invariant-loop-place : goal.invariant-loop-place
invariant-loop-place l = IsWalked (turns_for l.id l.client (map history_step l.steps)) l.put l.place l.crossed
