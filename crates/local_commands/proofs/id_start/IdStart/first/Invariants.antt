use Rattle.std.proofs.Common.{◌≡◌, drop}
use Rattle.local_commands.specs.TypedIds.{id_of_first, rows_from}
use Rattle.local_commands.proofs.id_start.IdStart.first.Given as goal

abbrev pub invariant-loop-row : goal.invariant-loop-row
invariant-loop-row l =
    id_of_first (rows_from l.self l.rows) ≡ id_of_first (rows_from l.self (drop l.row-index l.rows))
