use Rattle.std.proofs.Common.{◌≡◌, ◌≤◌, take}
use Rattle.jop_watch.specs.Progress.{count_waiting}
use Rattle.jop_watch.proofs.waiting.Waiting.of.Given as goal

abbrev pub invariant-loop-row : goal.invariant-loop-row
invariant-loop-row l = record {
  counted : l.rows ≡ count_waiting (take l.row-index l.tables.rows);
  few : l.rows ≤ l.row-index;
}
