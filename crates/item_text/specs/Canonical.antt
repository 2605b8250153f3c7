-- The canonical text of what bytes read to.
use Rattle.std.specs.Prelude.{◌≡◌, ℕ, List, ◌++◌, Some, Result, Ok, Err}
use Rattle.std.specs.Borrow.{Bor}
use Rattle.item_text.specs.declared.bad_item.ItemErr.{ItemErr}
use Rattle.item_text.specs.declared.bad_item.ItemErr.TheVariants as errors
use Rattle.item_text.specs.declared.item.Item.{Item}
use Rattle.item_text.specs.Grammar.{first_fault, item_in, written}

-- the bytes read to an item, and this is that item's text
pub record IsCanonical (bytes text : List ℕ) : Type 0 where
  pub item : Item
  pub is_read : item_in bytes ≡ Some item
  pub is_written : text ≡ written item

-- the canonical text in three parts, if the bytes read to an item; else the first refusal; or memory ran out
abbrev pub GivesCanonical : List ℕ → Result (List ℕ × Bor (List ℕ) × List ℕ) ItemErr → Type 0
GivesCanonical bytes (Ok parts) = IsCanonical bytes (parts.0 ++ (parts.1.now ++ parts.2))
GivesCanonical bytes (Err (errors.Bad refusal)) = first_fault bytes ≡ Some refusal
GivesCanonical bytes (Err errors.NoMemory) = Unit {0}
