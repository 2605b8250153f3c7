-- The licence of the notes of a folder that is gone.
use Rattle.std.specs.Prelude.{ℕ, ◌≡◌, ◌⊎◌, List, Bool, true, Some, None}
use Rattle.local_store.specs.Rows.{item_of}
use Rattle.local_store.specs.Tables.{row_at}
use Rattle.local_store.specs.declared.row.Row.{Row}
use Rattle.law_licences.specs.Conflicts.{MayConflict}
use Rattle.law_licences.specs.Items.{is_folder, is_note_in}
use Rattle.law_licences.specs.Pages.{MayGo}
use Rattle.law_licences.specs.Views.{View}

-- the row may go now, by the page or by its check
abbrev pub IsLeaving : View → List ℕ → Type 0
IsLeaving v id = MayGo v id ⊎ ((copies : Bool) × MayConflict v id None copies)

-- a readable note becomes a conflict note while its folder may go
pub record MayMove (v : View) (id : List ℕ) : Type 0 where
  pub row : Row
  pub folder : List ℕ
  pub place : Row
  pub at : row_at v.tables id ≡ Some row
  pub inside : is_note_in folder row ≡ true
  pub stands : row_at v.tables folder ≡ Some place
  pub is : is_folder (item_of place.content) ≡ true
  pub leaving : IsLeaving v folder
