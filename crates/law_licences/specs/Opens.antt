-- The licence of sealed rows that can be opened.
use Rattle.std.specs.Prelude.{ℕ, ◌≡◌, List, Some}
use Rattle.item_text.specs.declared.item.Item.{Item}
use Rattle.local_store.specs.Tables.{row_at}
use Rattle.local_store.specs.declared.content.Content.TheVariants.{Sealed}
use Rattle.local_store.specs.declared.row.Row.{Row}
use Rattle.law_licences.specs.Views.{View}

-- a row is sealed, and the keys of the session open it to this item
pub record MayOpen (v : View) (id : List ℕ) (item : Item) : Type 0 where
  pub row : Row
  pub outer : Item
  pub at : row_at v.tables id ≡ Some row
  pub is_sealed : row.content ≡ Sealed outer
  pub opens : v.sealing.opens outer ≡ Some item
