use Rattle.std.proofs.Common.{◌≡◌, ◌≤◌, length, take, filter}
use Rattle.local_store.specs.declared.row.Row.{Row}
use Rattle.sync_session.specs.Keys.{is_sealed}
use Rattle.sync_session.proofs.keys.sealed_rows.Given as goal

abbrev pub invariant-loop-row : goal.invariant-loop-row
invariant-loop-row l = record {
  counted : l.count
      ≡ length (filter (λ (r : Row). is_sealed r.content) (take l.row-index l.tables.rows));
  few : l.count ≤ l.row-index;
}
