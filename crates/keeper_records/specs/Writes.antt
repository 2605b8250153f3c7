-- What each write does to tables. All that a case doesn't name stays as it is.
use Rattle.std.specs.Prelude.{ℕ, ◌^◌, List, [], ◌∷◌, ◌++◌, Bool, true, not, ◌&&◌, nat_eq, nat_lt, Some}
use Rattle.std.specs.List.{list_any}
use Rattle.jop_base.specs.Keyed.{put, cut}
use Rattle.sync_info.specs.Info.{IsInfo}
use Rattle.local_store.specs.declared.conflict_note.ConflictNote.{ConflictNote}
use Rattle.local_store.specs.declared.tables.Tables.{Tables}
use Rattle.local_store.specs.Changing.{with_row, without_row, cleared}
use Rattle.keeper.specs.Keepers.{Kept}
use Rattle.local_store.specs.Rows.{deletion_id}
use Rattle.local_store.specs.Sound.{IsSoundRow, IsSoundNote}
use Rattle.keeper_records.specs.declared.write.Write.{Write}
use Rattle.keeper_records.specs.declared.write.Write.TheVariants.{SetRow, DropRow, SetDeletion, DropDeletion, AddConflict, DropConflict, SetNext, SetClient, SetContext, SetInfo}

-- the tables after a write
abbrev pub after_write : Tables → Write → Tables
after_write t (SetRow row) = with_row t row
after_write t (DropRow id) = without_row t id
after_write t (SetDeletion deletion) =
    record t { deletions = put deletion_id t.deletions deletion }
after_write t (DropDeletion id) = record t { deletions = cut deletion_id t.deletions id }
after_write t (AddConflict note) = record t { conflicts = t.conflicts ++ note ∷ [] }
after_write t (DropConflict number) = cleared t number
after_write t (SetNext number) = record t { next_conflict = number }
after_write t (SetClient client) = record t { client = Some client }
after_write t (SetContext context) = record t { context = context }
after_write t (SetInfo info) = record t { info = info }

-- the tables after a list of writes, the first one first
abbrev pub after_writes : Tables → List Write → Tables
after_writes t [] = t
after_writes t (w ∷ ws) = after_writes (after_write t w) ws

-- what is kept after a list of writes
abbrev pub wrote : List Write → Kept → Kept
wrote ws k = record k { tables = after_writes k.tables ws }

-- ---- conflict notes that fit

-- whether the number of a new conflict note fits a database, whose greatest number is 2^63 - 1
abbrev pub has_room : Write → Bool
has_room (SetRow row) = true
has_room (DropRow id) = true
has_room (SetDeletion deletion) = true
has_room (DropDeletion id) = true
has_room (AddConflict note) = nat_lt note.number (2 ^ 63)
has_room (DropConflict number) = true
has_room (SetNext number) = true
has_room (SetClient client) = true
has_room (SetContext context) = true
has_room (SetInfo info) = true

-- whether a conflict note has this number
abbrev pub is_note_number : ℕ → List ConflictNote → Bool
is_note_number number notes = list_any (λ n. nat_eq n.number number) notes

-- whether the number of a new conflict note is free
abbrev pub is_free : Tables → Write → Bool
is_free t (SetRow row) = true
is_free t (DropRow id) = true
is_free t (SetDeletion deletion) = true
is_free t (DropDeletion id) = true
is_free t (AddConflict note) = not (is_note_number note.number t.conflicts)
is_free t (DropConflict number) = true
is_free t (SetNext number) = true
is_free t (SetClient client) = true
is_free t (SetContext context) = true
is_free t (SetInfo info) = true

-- whether the write fits: a new conflict note has a number that a database holds, and that no other note has
abbrev pub has_place : Tables → Write → Bool
has_place t w = has_room w && is_free t w

-- whether each write fits the tables that the ones before it leave
abbrev pub all_fit : Tables → List Write → Bool
all_fit t [] = true
all_fit t (w ∷ ws) = has_place t w && all_fit (after_write t w) ws

-- ---- sound writes

-- what is written is sound: the row, the conflict note or the info
abbrev pub IsSoundWrite : Write → Type 0
IsSoundWrite (SetRow row) = IsSoundRow row
IsSoundWrite (DropRow id) = Unit {0}
IsSoundWrite (SetDeletion deletion) = Unit {0}
IsSoundWrite (DropDeletion id) = Unit {0}
IsSoundWrite (AddConflict note) = IsSoundNote note
IsSoundWrite (DropConflict number) = Unit {0}
IsSoundWrite (SetNext number) = Unit {0}
IsSoundWrite (SetClient client) = Unit {0}
IsSoundWrite (SetContext context) = Unit {0}
IsSoundWrite (SetInfo info) = IsInfo info
