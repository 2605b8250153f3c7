-- The writes that make a change, and what has to be known of the tables to tell them.
use Rattle.std.specs.Prelude.{ℕ, ◌+◌, ◌-◌, ◌^◌, min, List, [], ◌∷◌, ◌++◌, Bool, true, false, if◌then◌else◌, Option, Some, None}
use Rattle.item_text.specs.declared.item.Item.{Item}
use Rattle.local_store.specs.declared.change.Change.{Change}
use Rattle.local_store.specs.declared.change.Change.TheVariants.{Named, Saved, Removed, Uploaded, Dropped, Taken, Conflict, Moved, Gone, Opened, Cleared, InfoIs, ContextIs}
use Rattle.local_store.specs.declared.content.Content.{Content}
use Rattle.local_store.specs.declared.content.Content.TheVariants.{Plain}
use Rattle.local_store.specs.declared.row.Row.{Row}
use Rattle.local_store.specs.Rows.{item_of}
use Rattle.local_store.specs.Tables.{base_of, is_synced, is_resource_row}
use Rattle.keeper_records.specs.declared.write.Write.{Write}
use Rattle.keeper_records.specs.declared.write.Write.TheVariants.{SetRow, DropRow, SetDeletion, DropDeletion, AddConflict, DropConflict, SetNext, SetClient, SetContext, SetInfo}

-- ---- what has to be known

-- the id of the row that has to be known; the others are told without one
abbrev pub row_needed : Change → Option (List ℕ)
row_needed (Saved id item) = Some id
row_needed (Removed id) = Some id
row_needed (Uploaded id bytes) = Some id
row_needed (Conflict id remote copies) = Some id
row_needed (Moved id) = Some id
row_needed (Opened id item) = Some id
row_needed change = None

-- whether the number of the next conflict note has to be known
abbrev pub needs_number : Change → Bool
needs_number (Conflict id remote copies) = copies
needs_number (Moved id) = true
needs_number change = false

-- ---- the writes

-- the row holds the item, plain and to be uploaded, with the base of the row before
abbrev pub saved_row : List ℕ → Item → Option Row → Row
saved_row id item row =
    let base = base_of row in record { id = id; content = Plain item; base = base; pending = true }

-- the row is as its file, which holds these bytes
abbrev pub synced_row : List ℕ → Content → List ℕ → Row
synced_row id content bytes =
    record { id = id; content = content; base = Some bytes; pending = false }

-- a row that was synced joins the deletions
abbrev pub deletion_writes : List ℕ → Option Row → List Write
deletion_writes id row =
    if is_synced row then SetDeletion (record { id = id; resource = is_resource_row row }) ∷ []
    else []

-- a row goes
abbrev pub removal_writes : List ℕ → Option Row → List Write
removal_writes id row = deletion_writes id row ++ DropRow id ∷ []

abbrev pub upload_writes : List ℕ → List ℕ → Option Row → List Write
upload_writes id bytes None = []
upload_writes id bytes (Some r) = SetRow (synced_row id r.content bytes) ∷ []

-- a conflict note under the next number, which rises until the end of 64 bits
abbrev pub note_writes : List ℕ → Item → ℕ → List Write
note_writes id item next =
    AddConflict (record { number = next; note = id; item = item })
    ∷ SetNext (min (next + 1) (2 ^ 64 - 1)) ∷ []

-- the row becomes what its file holds, or goes if there is none
abbrev pub remote_writes : List ℕ → Option (List ℕ × Content) → List Write
remote_writes id None = DropRow id ∷ []
remote_writes id (Some remote) = SetRow (synced_row id remote.1 remote.0) ∷ []

-- first the note, if there is to be one, then the row
abbrev pub conflict_writes : List ℕ → Option (List ℕ × Content) → Bool → Option Row → ℕ → List Write
conflict_writes id remote copies None next = []
conflict_writes id remote copies (Some r) next =
    (if copies then note_writes id (item_of r.content) next else []) ++ remote_writes id remote

abbrev pub open_writes : List ℕ → Item → Option Row → List Write
open_writes id item None = []
open_writes id item (Some r) =
    SetRow (record { id = id; content = Plain item; base = r.base; pending = r.pending }) ∷ []

-- the writes that make a change, from the row of its id and the next number
abbrev pub writes_of : Change → Option Row → ℕ → List Write
writes_of (Named client) row next = SetClient client ∷ []
writes_of (Saved id item) row next = SetRow (saved_row id item row) ∷ []
writes_of (Removed id) row next = removal_writes id row
writes_of (Uploaded id bytes) row next = upload_writes id bytes row
writes_of (Dropped id) row next = DropDeletion id ∷ []
writes_of (Taken id bytes content) row next = SetRow (synced_row id content bytes) ∷ []
writes_of (Conflict id remote copies) row next = conflict_writes id remote copies row next
writes_of (Moved id) row next = conflict_writes id None true row next
writes_of (Gone id) row next = DropRow id ∷ []
writes_of (Opened id item) row next = open_writes id item row
writes_of (Cleared number) row next = DropConflict number ∷ []
writes_of (InfoIs info) row next = SetInfo info ∷ []
writes_of (ContextIs context) row next = SetContext context ∷ []
