-- What all tables keep, and which changes are allowed.
use Rattle.std.specs.Prelude.{ℕ, ◌≡◌, List, All, Bool, false, Option, Some, None, codes}
use Rattle.jop_base.specs.Keyed.{IsSorted}
use Rattle.item_kinds.specs.Kinds.{GivesId}
use Rattle.item_text.specs.Props.{value_of}
use Rattle.item_text.specs.Valid.{IsItem}
use Rattle.item_text.specs.declared.item.Item.{Item}
use Rattle.sync_info.specs.Info.{IsInfo}
use Rattle.local_store.specs.declared.change.Change.{Change}
use Rattle.local_store.specs.declared.change.Change.TheVariants.{Saved, Taken, Conflict, Opened, InfoIs}
use Rattle.local_store.specs.declared.conflict_note.ConflictNote.{ConflictNote}
use Rattle.local_store.specs.declared.content.Content.{Content}
use Rattle.local_store.specs.declared.content.Content.TheVariants.{Plain, Sealed}
use Rattle.local_store.specs.declared.row.Row.{Row}
use Rattle.local_store.specs.declared.tables.Tables.{Tables}
use Rattle.local_store.specs.Rows.{row_id, deletion_id}

-- the pairs of the item say that it is sealed
abbrev pub SaysSealed : Item → Type 0
SaysSealed item = value_of (codes "encryption_applied") item.props ≡ Some (codes "1")

-- the item is valid, and has this id
pub record IsItemOf (id : List ℕ) (item : Item) : Type 0 where
  pub valid : IsItem item
  pub has_id : GivesId (codes "id") item.props (Some id)

-- the item is valid and has this id, and it is sealed exactly if its pairs say so
abbrev pub IsContentOf : List ℕ → Content → Type 0
IsContentOf id (Plain item) = IsItemOf id item × ¬ SaysSealed item
IsContentOf id (Sealed item) = IsItemOf id item × SaysSealed item

-- only a readable item waits to be uploaded
abbrev pub MayBePending : Content → Bool → Type 0
MayBePending (Plain item) pending = Unit {0}
MayBePending (Sealed item) pending = pending ≡ false

pub record IsSoundRow (r : Row) : Type 0 where
  pub content : IsContentOf r.id r.content
  pub pending : MayBePending r.content r.pending

-- the text of the conflict note can be written
abbrev pub IsSoundNote : ConflictNote → Type 0
IsSoundNote n = IsItem n.item

-- Rows and deletions stand in the order of their ids, each id once. Each row holds a valid item of its own id, and a
-- sealed one isn't to be uploaded. Conflict notes and the info are valid.
pub record IsSound (t : Tables) : Type 0 where
  pub rows_ordered : IsSorted row_id t.rows
  pub rows : All IsSoundRow t.rows
  pub deletions_ordered : IsSorted deletion_id t.deletions
  pub conflicts : All IsSoundNote t.conflicts
  pub info : IsInfo t.info

-- what the file of this id held, if it was there, is an item of this id
abbrev pub IsRemoteOf : List ℕ → Option (List ℕ × Content) → Type 0
IsRemoteOf id None = Unit {0}
IsRemoteOf id (Some remote) = IsContentOf id remote.1

-- each item in the change is valid, has the id of its row, and is sealed exactly if its pairs say so; an info is valid;
-- of a change that has neither nothing is asked
abbrev pub IsAllowed : Change → Type 0
IsAllowed (Saved id item) = IsContentOf id (Plain item)
IsAllowed (Taken id bytes content) = IsContentOf id content
IsAllowed (Conflict id remote copies) = IsRemoteOf id remote
IsAllowed (Opened id item) = IsContentOf id (Plain item)
IsAllowed (InfoIs info) = IsInfo info
IsAllowed change = Unit {0}
