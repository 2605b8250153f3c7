-- What reading may answer.
use Rattle.std.specs.Prelude.{◌≡◌, ℕ, List, None, Some, Result, Ok, Err}
use Rattle.item_text.specs.declared.item.Item.{Item}
use Rattle.item_text.specs.declared.bad_item.ItemErr.{ItemErr}
use Rattle.item_text.specs.declared.bad_item.ItemErr.TheVariants as errors
use Rattle.item_text.specs.Grammar.{ReadsAs, first_fault}

-- the item that the bytes read as, if nothing refuses them; else the first refusal; or memory ran out
unfoldable pub ReadsOrRefuses : List ℕ → Result Item ItemErr → Type 0
ReadsOrRefuses bytes (Ok item) = ReadsAs bytes item × (first_fault bytes ≡ None)
ReadsOrRefuses bytes (Err (errors.Bad refusal)) = first_fault bytes ≡ Some refusal
ReadsOrRefuses bytes (Err errors.NoMemory) = Unit {0}

-- this item was read, unless memory ran out
unfoldable pub IsOrMemory : Item → Result Item ItemErr → Type 0
IsOrMemory item (Ok found) = found ≡ item
IsOrMemory item (Err (errors.Bad refusal)) = ⊥
IsOrMemory item (Err errors.NoMemory) = Unit {0}
