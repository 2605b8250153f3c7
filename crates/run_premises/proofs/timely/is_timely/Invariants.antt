use Rattle.std.proofs.Common.{ℕ, ◌≡◌, ◌<◌, List, slice_get, Some}
use Rattle.jop_target.specs.declared.tree.Tree.{Tree}
use Rattle.run_premises.specs.InTime.{IsTimelyFor}
use Rattle.run_premises.specs.Steps.{run_history}
use Rattle.run_premises.proofs.timely.is_timely.Given as goal

abbrev pub invariant-loop-index : goal.invariant-loop-index
invariant-loop-index l =
    (tree : Tree) (k : ℕ) (client : List ℕ) → k < l.index → slice_get l.clients k ≡ Some client →
    IsTimelyFor (run_history tree l.steps) client
