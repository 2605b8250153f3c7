-- What each change does to tables. All that a case doesn't name stays as it is.
use Rattle.std.specs.Prelude.{ℕ, ◌+◌, ◌-◌, ◌^◌, min, List, [], ◌∷◌, ◌++◌, Bool, true, false, not, nat_eq, if◌then◌else◌, Option, Some, None}
use Rattle.std.specs.List.{filter}
use Rattle.jop_base.specs.Keyed.{put, cut}
use Rattle.item_text.specs.declared.item.Item.{Item}
use Rattle.local_store.specs.declared.change.Change.{Change}
use Rattle.local_store.specs.declared.change.Change.TheVariants.{Named, Saved, Removed, Uploaded, Dropped, Taken, Conflict, Moved, Gone, Opened, Cleared, InfoIs, ContextIs}
use Rattle.local_store.specs.declared.content.Content.{Content}
use Rattle.local_store.specs.declared.content.Content.TheVariants.{Plain}
use Rattle.local_store.specs.declared.deletion.Deletion.{Deletion}
use Rattle.local_store.specs.declared.row.Row.{Row}
use Rattle.local_store.specs.declared.tables.Tables.{Tables}
use Rattle.local_store.specs.Rows.{row_id, deletion_id, item_of}
use Rattle.local_store.specs.Tables.{row_at, base_of, is_synced, is_resource_row}

-- with this row in place of the one of its id, or among the others
abbrev pub with_row : Tables → Row → Tables
with_row t row = record t { rows = put row_id t.rows row }

abbrev pub without_row : Tables → List ℕ → Tables
without_row t id = record t { rows = cut row_id t.rows id }

-- the row holds the item, plain and to be uploaded; what its file held is known as before
abbrev pub saved : Tables → List ℕ → Item → Tables
saved t id item =
    let base = base_of (row_at t id) in
    with_row t (record { id = id; content = Plain item; base = base; pending = true })

-- the deletions once the row is removed: one more if it was synced
abbrev pub deletions_after : Tables → List ℕ → List Deletion
deletions_after t id =
    let deletion : Deletion = record { id = id; resource = is_resource_row (row_at t id) } in
    if is_synced (row_at t id) then put deletion_id t.deletions deletion else t.deletions

abbrev pub with_removal : Tables → List ℕ → Tables
with_removal t id = record (without_row t id) { deletions = deletions_after t id }

-- the row's file holds these bytes, and the row isn't to be uploaded
abbrev pub uploaded : Tables → List ℕ → List ℕ → Option Row → Tables
uploaded t id bytes None = t
uploaded t id bytes (Some r) =
    with_row t (record { id = id; content = r.content; base = Some bytes; pending = false })

-- the row becomes what its file holds
abbrev pub taken : Tables → List ℕ → List ℕ → Content → Tables
taken t id bytes content =
    with_row t (record { id = id; content = content; base = Some bytes; pending = false })

-- the item joins the conflict notes under the next number, which rises until the end of 64 bits
abbrev pub with_conflict_note : Tables → List ℕ → Item → Tables
with_conflict_note t id item = record t {
  conflicts = t.conflicts ++ record { number = t.next_conflict; note = id; item = item } ∷ [];
  next_conflict = min (t.next_conflict + 1) (2 ^ 64 - 1);
}

abbrev pub noted_if : Bool → Tables → List ℕ → Item → Tables
noted_if copies t id item = if copies then with_conflict_note t id item else t

-- the row becomes what its file holds, or goes if there is none
abbrev pub with_remote : Tables → List ℕ → Option (List ℕ × Content) → Tables
with_remote t id None = without_row t id
with_remote t id (Some remote) = taken t id remote.0 remote.1

-- the row gives way to its file, and its own item joins the conflict notes if it is to be copied
abbrev pub conflicted : Tables → List ℕ → Option (List ℕ × Content) → Bool → Option Row → Tables
conflicted t id remote copies None = t
conflicted t id remote copies (Some r) =
    with_remote (noted_if copies t id (item_of r.content)) id remote

-- the row's item, which was sealed, is readable
abbrev pub opened : Tables → List ℕ → Item → Option Row → Tables
opened t id item None = t
opened t id item (Some r) =
    with_row t (record { id = id; content = Plain item; base = r.base; pending = r.pending })

-- without each conflict note of this number
abbrev pub cleared : Tables → ℕ → Tables
cleared t number =
    record t { conflicts = filter (λ n. not (nat_eq n.number number)) t.conflicts }

-- the tables after a change
abbrev pub after : Tables → Change → Tables
after t (Named client) = record t { client = Some client }
after t (Saved id item) = saved t id item
after t (Removed id) = with_removal t id
after t (Uploaded id bytes) = uploaded t id bytes (row_at t id)
after t (Dropped id) = record t { deletions = cut deletion_id t.deletions id }
after t (Taken id bytes content) = taken t id bytes content
after t (Conflict id remote copies) = conflicted t id remote copies (row_at t id)
after t (Moved id) = conflicted t id None true (row_at t id)
after t (Gone id) = without_row t id
after t (Opened id item) = opened t id item (row_at t id)
after t (Cleared number) = cleared t number
after t (InfoIs info) = record t { info = info }
after t (ContextIs context) = record t { context = context }

-- the tables after a list of changes, the first one first
unfoldable pub after_all : Tables → List Change → Tables
after_all t [] = t
after_all t (c ∷ cs) = after_all (after t c) cs
