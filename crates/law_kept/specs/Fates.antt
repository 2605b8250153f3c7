-- What becomes of a note that a client saved.
use Rattle.std.specs.Prelude.{◌≡◌, ◌⊎◌, ℕ, List, [], ◌∷◌, Bool, true, Some, None, slice_get}
use Rattle.item_text.specs.declared.item.Item.{Item}
use Rattle.local_store.specs.declared.content.Content.{Content}
use Rattle.law_kept.specs.Acts.{Saved, Conflict, Cleared as Clears, is_users, Act, Puts, Deletes, Changes, FileStep, Version, FileHistory}
use Rattle.law_licences.specs.Copies.{is_same_note}
use Rattle.law_licences.specs.Items.{is_note}
use Rattle.law_kept.specs.Own.{OwnRow, row_base}
use Rattle.law_kept.specs.Standing.{Copy, World, world_at, world_end}

-- the list has the element
unfoldable pub Has : {A : Type 0} → List A → A → Type 0
Has [] x = ⊥
Has (y ∷ ys) x = (y ≡ x) ⊎ Has ys x

-- ---- where an item stands

-- a row of the client stands for it
pub record RowStands (w : World) (client : List ℕ) (item : Item) : Type 0 where
  pub row : OwnRow
  pub there : (w.at client).own.row ≡ Some row
  pub stands : (w.at client).stands.row ≡ Some item

-- the file stands for it
pub record FileStands (w : World) (item : Item) : Type 0 where
  pub version : Version
  pub there : w.file ≡ Some version
  pub stands : version.item ≡ Some item

-- a conflict note of the client stands for it
pub record CopyStands (w : World) (client : List ℕ) (item : Item) : Type 0 where
  pub copy : Copy
  pub there : Has (w.at client).stands.copies copy
  pub stands : copy.item ≡ item

-- ---- how an item went

-- the user saves or removes
abbrev pub IsUsers : Act → Type 0
IsUsers (Changes change) = is_users change ≡ true
IsUsers act = ⊥

-- a client whose row stood for it saved over it, or removed it
pub record WasReplaced (h : FileHistory) (item : Item) : Type 0 where
  pub place : ℕ
  pub step : FileStep
  pub here : slice_get h.steps place ≡ Some step
  pub stood : RowStands (world_at h place) step.client item
  pub by : IsUsers step.act

-- a client cleared a conflict note that stood for it
pub record WasCleared (h : FileHistory) (item : Item) : Type 0 where
  pub place : ℕ
  pub step : FileStep
  pub here : slice_get h.steps place ≡ Some step
  pub stood : CopyStands (world_at h place) step.client item
  pub by : step.act ≡ Changes (Clears stood.copy.number)

-- a client's put landed on the file that stood for it, while that client's base was the file's bytes
pub record WasPutOver (h : FileHistory) (item : Item) : Type 0 where
  pub place : ℕ
  pub step : FileStep
  pub bytes : List ℕ
  pub heard : Bool
  pub here : slice_get h.steps place ≡ Some step
  pub stood : FileStands (world_at h place) item
  pub by : step.act ≡ Puts bytes true heard
  pub based : row_base ((world_at h place).at step.client).own.row ≡ Some stood.version.bytes

-- a delete landed on the file that stood for it, by a client whose deletions had the item
pub record ItemWasDeleted (h : FileHistory) (item : Item) : Type 0 where
  pub place : ℕ
  pub step : FileStep
  pub here : slice_get h.steps place ≡ Some step
  pub stood : FileStands (world_at h place) item
  pub by : step.act ≡ Deletes true
  pub recorded : ((world_at h place).at step.client).own.deleted ≡ true

-- ---- the promise

-- the item is current, in conflict notes, replaced by a client that had seen it, or removed by a recorded deletion
pub data HasFate (h : FileHistory) (item : Item) : Type 0 where
  OnRow : (client : List ℕ) → RowStands (world_end h) client item → HasFate h item
  OnStore : FileStands (world_end h) item → HasFate h item
  InConflicts : (client : List ℕ) → CopyStands (world_end h) client item → HasFate h item
  Replaced : WasReplaced h item → HasFate h item
  Cleared : WasCleared h item → HasFate h item
  PutOver : WasPutOver h item → HasFate h item
  Deleted : ItemWasDeleted h item → HasFate h item

-- A client's row stood for the item when it gave way to a file, without a copy. The client read the item's own title
-- and body there. The file stood for the other item.
pub record WasMet (h : FileHistory) (item other : Item) : Type 0 where
  pub place : ℕ
  pub step : FileStep
  pub remote : List ℕ × Content
  pub here : slice_get h.steps place ≡ Some step
  pub by : step.act ≡ Changes (Conflict (Some remote) None)
  pub stood : RowStands (world_at h place) step.client item
  pub alike : is_same_note item remote.1 ≡ true
  pub got : ((world_at h place).at step.client).stands.got ≡ Some other

-- the item itself, or one that it counts through
abbrev pub IsHeir : FileHistory → Item → Item → Type 0
IsHeir h item other = (other ≡ item) ⊎ WasMet h item other

-- the item was saved at this place
pub record WasSaved (h : FileHistory) (place : ℕ) (item : Item) : Type 0 where
  pub step : FileStep
  pub here : slice_get h.steps place ≡ Some step
  pub by : step.act ≡ Changes (Saved item)

-- each note that a client saved, or one that it counts through, has a fate
abbrev pub IsKept : FileHistory → Type 0
IsKept h =
    (place : ℕ) (item : Item) → WasSaved h place item → is_note item ≡ true
    → (other : Item) × IsHeir h item other × HasFate h other

-- the item has no fate, and nothing that it counts through has one
abbrev pub IsLost : FileHistory → Item → Type 0
IsLost h item = (other : Item) → IsHeir h item other → HasFate h other → ⊥
