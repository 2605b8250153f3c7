use Rattle.std.proofs.Common.{◌≡◌, ◌≤◌, length, take}
use Rattle.local_commands.specs.TypedIds.{rows_from}
use Rattle.local_commands.proofs.id_start.IdStart.count.Given as goal

abbrev pub invariant-loop-row : goal.invariant-loop-row
invariant-loop-row l = record {
  counted : l.count ≡ length (rows_from l.self (take l.row-index l.rows));
  few : l.count ≤ l.row-index;
}
