use Rattle.std.proofs.Common.{◌≡◌, take, map, filter, is_some}
use Rattle.local_store.specs.Rows.{row_id}
use Rattle.local_store.specs.declared.row.Row.{Row}
use Rattle.download.proofs.paging.synced_ids.Given as goal

abbrev pub invariant-loop-row : goal.invariant-loop-row
invariant-loop-row l =
    l.ids ≡ map row_id (filter (λ (r : Row). is_some r.base) (take l.row-index l.tables.rows))
