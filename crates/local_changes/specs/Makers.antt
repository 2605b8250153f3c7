-- The changes that make a note, a notebook or a resource, and the one that removes an item.
use Rattle.std.specs.Prelude.{ℕ, List, Bool, ◌&&◌, ◌||◌, codes, if◌then◌else◌, Option, Some, None, Result, Ok, Err}
use Rattle.std.specs.List.{list_any}
use Rattle.item_text.specs.Props.{has_value}
use Rattle.item_kinds.specs.Made.{note, folder, resource}
use Rattle.local_store.specs.declared.change.Change.{Change}
use Rattle.local_store.specs.declared.change.Change.TheVariants.{Saved, Removed}
use Rattle.local_store.specs.declared.row.Row.{Row}
use Rattle.local_store.specs.declared.tables.Tables.{Tables}
use Rattle.local_store.specs.Rows.{item_of, has_kind}
use Rattle.local_store.specs.Tables.{row_at}
use Rattle.local_changes.specs.declared.store_err.StoreErr.{StoreErr}
use Rattle.local_changes.specs.declared.store_err.StoreErr.TheVariants.{NotFound, NotEmpty}
use Rattle.local_changes.specs.Lookup.{note_kind, folder_kind, is_row_of}
use Rattle.local_changes.specs.Saving.{saved_within}

-- a note in a notebook that is there
abbrev pub new_note : Tables → List ℕ → List ℕ → List ℕ → List ℕ → ℕ → Result Change StoreErr
new_note t id book title body now =
    if is_row_of folder_kind (row_at t book) then saved_within id (note id book title body now)
    else Err (NotFound book)

-- a parent, if one is given, is a notebook that is there
abbrev pub parent_check : Tables → Option (List ℕ) → Result (Unit {0}) StoreErr
parent_check t None = Ok tt
parent_check t (Some book) =
    if is_row_of folder_kind (row_at t book) then Ok tt else Err (NotFound book)

-- what is due once a check has gone well
abbrev pub checked : Result (Unit {0}) StoreErr → Result Change StoreErr → Result Change StoreErr
checked (Ok done) due = due
checked (Err e) due = Err e

-- a notebook at the top, or in another one that is there
abbrev pub new_book : Tables → List ℕ → Option (List ℕ) → List ℕ → ℕ → Result Change StoreErr
new_book t id parent title now =
    checked (parent_check t parent) (saved_within id (folder id parent title now))

abbrev pub new_resource : List ℕ → List ℕ → List ℕ → ℕ → ℕ → Change
new_resource id name mime len now = Saved id (resource id name mime len now)

-- ---- removing

-- the row is a note or a notebook in this notebook
abbrev pub is_child : List ℕ → Row → Bool
is_child book r =
    let item = item_of r.content in
    (has_kind note_kind item || has_kind folder_kind item)
    && has_value (codes "parent_id") book item.props

-- the row is a notebook in which something is
abbrev pub is_full : Tables → List ℕ → Row → Bool
is_full t id r = has_kind folder_kind (item_of r.content) && list_any (is_child id) t.rows

abbrev pub removed_row : Tables → List ℕ → Option Row → Result Change StoreErr
removed_row t id None = Err (NotFound id)
removed_row t id (Some r) = if is_full t id r then Err (NotEmpty id) else Ok (Removed id)

-- a row goes that is there, and no notebook in which something is
abbrev pub removed : Tables → List ℕ → Result Change StoreErr
removed t id = removed_row t id (row_at t id)
