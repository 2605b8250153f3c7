-- What stands in tables.
use Rattle.std.specs.Prelude.{ℕ, List, [], Bool, false, Option, Some, None, is_some}
use Rattle.jop_base.specs.Keyed.{at}
use Rattle.sync_info.specs.Info.{new_info}
use Rattle.local_store.specs.declared.deletion.Deletion.{Deletion}
use Rattle.local_store.specs.declared.row.Row.{Row}
use Rattle.local_store.specs.declared.tables.Tables.{Tables}
use Rattle.local_store.specs.Rows.{row_id, deletion_id, item_of, has_kind}

-- no items, and the info of a new target of version 3
abbrev pub new_tables : Tables
new_tables = record {
  client = None;
  rows = [];
  deletions = [];
  conflicts = [];
  next_conflict = 1;
  context = record { moment = 0; seen = [] };
  info = new_info 3;
}

-- the row of an id
abbrev pub row_at : Tables → List ℕ → Option Row
row_at t id = at row_id t.rows id

-- the deletion of an id
abbrev pub deletion_at : Tables → List ℕ → Option Deletion
deletion_at t id = at deletion_id t.deletions id

-- what the row's file held when this client last read or wrote it
abbrev pub base_of : Option Row → Option (List ℕ)
base_of None = None
base_of (Some r) = r.base

abbrev pub is_synced : Option Row → Bool
is_synced None = false
is_synced (Some r) = is_some r.base

abbrev pub is_resource_row : Option Row → Bool
is_resource_row None = false
is_resource_row (Some r) = has_kind (record { 0 = 4 }) (item_of r.content)
