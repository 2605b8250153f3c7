-- What a store keeps beside its log.
use Rattle.std.specs.Prelude.{ℕ, ◌≡◌, List}
use Rattle.jop_target.specs.declared.tree.Tree.{Tree}
use Rattle.call_log.specs.Logs.{IsHonestLog, last_logged, tree_after_log}
use Rattle.call_log.specs.declared.entry.LogEntry.{LogEntry}

-- its log is honest from the opening tree on, its tree is what the log leaves of that, and its moment
-- is the last entry's
pub record KeepsLog (opening : Tree) (moment : ℕ) (tree : Tree) (log : List LogEntry) : Type 0 where
  pub moment_is : moment ≡ last_logged 0 log
  pub tree_is : tree ≡ tree_after_log opening log
  pub honest : IsHonestLog opening log
