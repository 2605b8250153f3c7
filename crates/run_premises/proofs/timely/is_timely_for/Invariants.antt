use Rattle.std.proofs.Common.{ℕ, ◌≡◌, ◌<◌, map, take}
use Rattle.jop_target.specs.declared.tree.Tree.{Tree}
use Rattle.lease.specs.Exclusion.{phase_at}
use Rattle.run_premises.specs.Seen.{seen_phase}
use Rattle.run_premises.specs.InTime.{IsInTimeAt}
use Rattle.run_premises.specs.Steps.{run_history, history_step}
use Rattle.run_premises.proofs.timely.is_timely_for.Given as goal

abbrev pub invariant-loop-index : goal.invariant-loop-index
invariant-loop-index l = record {
  phase : l.phase ≡ seen_phase l.client (phase_at l.client (take l.index (map history_step l.steps)));
  timely : (tree : Tree) (place : ℕ) → place < l.index → IsInTimeAt (run_history tree l.steps) l.client place;
}
