-- Sound tables stay sound, and those in order stay in order, whatever is changed.
use Rattle.std.specs.Prelude.{ℕ, List, [], Bool, true, false, not, nat_eq, if◌then◌else◌, Option, Some, None, Result, Ok, Err, OnOk, OnErr, refl, ◌≡◌}
use Rattle.std.specs.declared.alloc.AllocError.{AllocError}
use Rattle.std.proofs.Common.{sym, subst, arith}
use Rattle.std.proofs.lemmas.List.Elements.{All-append, All-filter, All-cons, All-nil}
use Rattle.jop_base.specs.Keyed.{put, IsSorted}
use Rattle.jop_base.proofs.KeyedLaws.{All-at, All-put, All-cut, IsSorted-put, IsSorted-cut, key-at}
use Rattle.item_text.specs.declared.item.Item.{Item}
use Rattle.item_text.specs.Valid.{IsItem}
use Rattle.sync_info.proofs.KeptLemmas.{IsInfo-new_info}
use Rattle.local_store.specs.declared.change.Change.{Change}
use Rattle.local_store.specs.declared.change.Change.TheVariants.{Saved, Removed, Uploaded, Dropped, Taken, Conflict, Moved, Gone, Opened, Cleared, InfoIs}
use Rattle.local_store.specs.declared.content.Content.{Content}
use Rattle.local_store.specs.declared.content.Content.TheVariants.{Plain, Sealed}
use Rattle.local_store.specs.declared.deletion.Deletion.{Deletion}
use Rattle.local_store.specs.declared.row.Row.{Row}
use Rattle.local_store.specs.declared.tables.Tables.{Tables}
use Rattle.local_store.specs.Changing.{after, with_row, without_row, uploaded, with_conflict_note, noted_if, with_remote, conflicted, opened}
use Rattle.local_store.specs.Rows.{row_id, deletion_id, item_of}
use Rattle.local_store.specs.Sound.{IsContentOf, MayBePending, IsSoundRow, IsSoundNote, IsRemoteOf, IsSound, IsAllowed}
use Rattle.local_store.specs.Tables.{new_tables, row_at, base_of, is_synced, is_resource_row}

-- ---- order

-- rows and deletions stand in the order of their ids, each id once
pub record IsOrdered (t : Tables) : Type 0 where
  pub rows : IsSorted row_id t.rows
  pub deletions : IsSorted deletion_id t.deletions

pub ordered_new : IsOrdered new_tables
ordered_new = record { rows = tt; deletions = tt }

ordered_with : (t : Tables) (r : Row) → IsOrdered t → IsOrdered (with_row t r)
ordered_with t r o =
    record { rows = IsSorted-put row_id t.rows r o.rows; deletions = o.deletions }

ordered_without : (t : Tables) (id : List ℕ) → IsOrdered t → IsOrdered (without_row t id)
ordered_without t id o =
    record { rows = IsSorted-cut row_id t.rows id o.rows; deletions = o.deletions }

deletions-ordered : (synced : Bool) (ds : List Deletion) (d : Deletion) → IsSorted deletion_id ds
    → IsSorted deletion_id (if synced then put deletion_id ds d else ds)
deletions-ordered true ds d ordered = IsSorted-put deletion_id ds d ordered
deletions-ordered false ds d ordered = ordered

ordered_uploaded : (t : Tables) (id bytes : List ℕ) (row : Option Row) → IsOrdered t
    → IsOrdered (uploaded t id bytes row)
ordered_uploaded t id bytes None o = o
ordered_uploaded t id bytes (Some r) o = ordered_with t
    (record { id = id; content = r.content; base = Some bytes; pending = false }) o

ordered_opened : (t : Tables) (id : List ℕ) (item : Item) (row : Option Row) → IsOrdered t
    → IsOrdered (opened t id item row)
ordered_opened t id item None o = o
ordered_opened t id item (Some r) o = ordered_with t
    (record { id = id; content = Plain item; base = r.base; pending = r.pending }) o

-- a conflict note more leaves rows and deletions
pub ordered_noted : (copies : Bool) (t : Tables) (id : List ℕ) (item : Item) → IsOrdered t
    → IsOrdered (noted_if copies t id item)
ordered_noted true t id item o = record { rows = o.rows; deletions = o.deletions }
ordered_noted false t id item o = o

ordered_remote : (t : Tables) (id : List ℕ) (remote : Option (List ℕ × Content)) → IsOrdered t
    → IsOrdered (with_remote t id remote)
ordered_remote t id None o = ordered_without t id o
ordered_remote t id (Some remote) o = ordered_with t
    (record { id = id; content = remote.1; base = Some remote.0; pending = false }) o

ordered_conflicted : (t : Tables) (id : List ℕ) (remote : Option (List ℕ × Content))
    (copies : Bool) (row : Option Row) → IsOrdered t
    → IsOrdered (conflicted t id remote copies row)
ordered_conflicted t id remote copies None o = o
ordered_conflicted t id remote copies (Some r) o =
    ordered_remote (noted_if copies t id (item_of r.content)) id remote
    (ordered_noted copies t id (item_of r.content) o)

-- a change that names neither rows nor deletions leaves both
pub ordered_after : (t : Tables) (c : Change) → IsOrdered t → IsOrdered (after t c)
ordered_after t (Saved id item) o = ordered_with t
    (record { id = id; content = Plain item; base = base_of (row_at t id); pending = true }) o
ordered_after t (Removed id) o = record {
  rows = IsSorted-cut row_id t.rows id o.rows;
  deletions = deletions-ordered (is_synced (row_at t id)) t.deletions
      (record { id = id; resource = is_resource_row (row_at t id) }) o.deletions;
}
ordered_after t (Uploaded id bytes) o = ordered_uploaded t id bytes (row_at t id) o
ordered_after t (Dropped id) o =
    record { rows = o.rows; deletions = IsSorted-cut deletion_id t.deletions id o.deletions }
ordered_after t (Taken id bytes content) o = ordered_with t
    (record { id = id; content = content; base = Some bytes; pending = false }) o
ordered_after t (Conflict id remote copies) o =
    ordered_conflicted t id remote copies (row_at t id) o
ordered_after t (Moved id) o = ordered_conflicted t id None true (row_at t id) o
ordered_after t (Gone id) o = ordered_without t id o
ordered_after t (Opened id item) o = ordered_opened t id item (row_at t id) o
ordered_after t c o = record { rows = o.rows; deletions = o.deletions }

-- sound tables are in order
pub sound_ordered : (t : Tables) → IsSound t → IsOrdered t
sound_ordered t sound =
    record { rows = sound.rows_ordered; deletions = sound.deletions_ordered }

-- ---- parts

with_row-sound : (t : Tables) (r : Row) → IsSound t → IsSoundRow r → IsSound (with_row t r)
with_row-sound t r sound row = record {
  rows_ordered = IsSorted-put row_id t.rows r sound.rows_ordered;
  rows = All-put row_id IsSoundRow t.rows r sound.rows row;
  deletions_ordered = sound.deletions_ordered;
  conflicts = sound.conflicts;
  info = sound.info;
}

without_row-sound : (t : Tables) (id : List ℕ) → IsSound t → IsSound (without_row t id)
without_row-sound t id sound = record {
  rows_ordered = IsSorted-cut row_id t.rows id sound.rows_ordered;
  rows = All-cut row_id IsSoundRow t.rows id sound.rows;
  deletions_ordered = sound.deletions_ordered;
  conflicts = sound.conflicts;
  info = sound.info;
}

noted-sound : (t : Tables) (id : List ℕ) (item : Item) → IsSound t → IsItem item
    → IsSound (with_conflict_note t id item)
noted-sound t id item sound valid = record {
  rows_ordered = sound.rows_ordered;
  rows = sound.rows;
  deletions_ordered = sound.deletions_ordered;
  conflicts = All-append IsSoundNote t.conflicts _ sound.conflicts
      (All-cons IsSoundNote _ [] valid (All-nil IsSoundNote));
  info = sound.info;
}

-- a readable row may be pending or not, and no row that isn't is at fault
not_pending : (content : Content) → MayBePending content false
not_pending (Plain item) = tt
not_pending (Sealed item) = refl

valid_item : (id : List ℕ) (content : Content) → IsContentOf id content → IsItem (item_of content)
valid_item id (Plain item) of = of.0.valid
valid_item id (Sealed item) of = of.0.valid

-- the row of an id holds an item of that id
pub content_at : (t : Tables) (id : List ℕ) (r : Row) → IsSound t → row_at t id ≡ Some r
    → IsContentOf id r.content
content_at t id r sound is =
    let of = (All-at row_id IsSoundRow t.rows id r sound.rows is).content in
    subst (λ (k : List ℕ). IsContentOf k r.content) (key-at row_id t.rows id r is) of

-- ---- changes of a row that is there

uploaded-sound : (t : Tables) (id bytes : List ℕ) (row : Option Row) → IsSound t
    → row_at t id ≡ row → IsSound (uploaded t id bytes row)
uploaded-sound t id bytes None sound is = sound
uploaded-sound t id bytes (Some r) sound is = with_row-sound t _ sound
    (record { content = content_at t id r sound is; pending = not_pending r.content })

taken-sound : (t : Tables) (id bytes : List ℕ) (content : Content) → IsSound t
    → IsContentOf id content → IsSound (after t (Taken id bytes content))
taken-sound t id bytes content sound of =
    with_row-sound t _ sound (record { content = of; pending = not_pending content })

with_remote-sound : (t : Tables) (id : List ℕ) (remote : Option (List ℕ × Content)) → IsSound t
    → IsRemoteOf id remote → IsSound (with_remote t id remote)
with_remote-sound t id None sound of = without_row-sound t id sound
with_remote-sound t id (Some remote) sound of = taken-sound t id remote.0 remote.1 sound of

noted_if-sound : (copies : Bool) (t : Tables) (id : List ℕ) (item : Item) → IsSound t → IsItem item
    → IsSound (noted_if copies t id item)
noted_if-sound true t id item sound valid = noted-sound t id item sound valid
noted_if-sound false t id item sound valid = sound

conflicted-sound : (t : Tables) (id : List ℕ) (remote : Option (List ℕ × Content)) (copies : Bool)
    (row : Option Row) → IsSound t → IsRemoteOf id remote → row_at t id ≡ row
    → IsSound (conflicted t id remote copies row)
conflicted-sound t id remote copies None sound of is = sound
conflicted-sound t id remote copies (Some r) sound of is =
    let valid = valid_item id r.content (content_at t id r sound is) in
    with_remote-sound _ id remote (noted_if-sound copies t id _ sound valid) of

opened-sound : (t : Tables) (id : List ℕ) (item : Item) (row : Option Row) → IsSound t
    → IsContentOf id (Plain item) → IsSound (opened t id item row)
opened-sound t id item None sound of = sound
opened-sound t id item (Some r) sound of =
    with_row-sound t _ sound (record { content = of; pending = tt })

-- ---- all changes

-- a change that names none of what is asked leaves it
pub after_sound : (t : Tables) (change : Change) → IsSound t → IsAllowed change
    → IsSound (after t change)
after_sound t (Saved id item) sound allowed =
    with_row-sound t _ sound (record { content = allowed; pending = tt })
after_sound t (Removed id) sound allowed =
    let ordered = ordered_after t (Removed id) (sound_ordered t sound) in
    record {
      rows_ordered = ordered.rows;
      rows = All-cut row_id IsSoundRow t.rows id sound.rows;
      deletions_ordered = ordered.deletions;
      conflicts = sound.conflicts;
      info = sound.info;
    }
after_sound t (Uploaded id bytes) sound allowed =
    uploaded-sound t id bytes (row_at t id) sound refl
after_sound t (Dropped id) sound allowed = record {
  rows_ordered = sound.rows_ordered;
  rows = sound.rows;
  deletions_ordered = IsSorted-cut deletion_id t.deletions id sound.deletions_ordered;
  conflicts = sound.conflicts;
  info = sound.info;
}
after_sound t (Taken id bytes content) sound allowed = taken-sound t id bytes content sound allowed
after_sound t (Conflict id remote copies) sound allowed =
    conflicted-sound t id remote copies (row_at t id) sound allowed refl
after_sound t (Moved id) sound allowed =
    conflicted-sound t id None true (row_at t id) sound tt refl
after_sound t (Gone id) sound allowed = without_row-sound t id sound
after_sound t (Opened id item) sound allowed = opened-sound t id item (row_at t id) sound allowed
after_sound t (Cleared number) sound allowed = record {
  rows_ordered = sound.rows_ordered;
  rows = sound.rows;
  deletions_ordered = sound.deletions_ordered;
  conflicts = All-filter (λ n. not (nat_eq n.number number)) IsSoundNote t.conflicts sound.conflicts;
  info = sound.info;
}
after_sound t (InfoIs info) sound allowed = record {
  rows_ordered = sound.rows_ordered;
  rows = sound.rows;
  deletions_ordered = sound.deletions_ordered;
  conflicts = sound.conflicts;
  info = allowed;
}
after_sound t change sound allowed = record {
  rows_ordered = sound.rows_ordered;
  rows = sound.rows;
  deletions_ordered = sound.deletions_ordered;
  conflicts = sound.conflicts;
  info = sound.info;
}

-- ---- new tables

pub new_sound : IsSound new_tables
new_sound = record {
  rows_ordered = tt;
  rows = All-nil IsSoundRow;
  deletions_ordered = tt;
  conflicts = All-nil IsSoundNote;
  info = IsInfo-new_info 3 (omega arith);
}

-- ---- what is applied, or not

pub applied_sound : (result : Result (Unit {0}) AllocError) (old new : Tables) (change : Change)
    → OnOk result (new ≡ after old change) → OnErr result (new ≡ old)
    → IsSound old → IsAllowed change → IsSound new
applied_sound (Ok done) old new change ok err sound allowed =
    subst IsSound (sym ok) (after_sound old change sound allowed)
applied_sound (Err e) old new change ok err sound allowed = subst IsSound (sym err) sound
