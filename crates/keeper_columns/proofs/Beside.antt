-- A text that reads as an item is the record's own, whatever its base.
use Rattle.std.specs.Prelude.{ℕ, ◌≡◌, List, [], ◌∷◌, Option, Some, None, refl}
use Rattle.std.proofs.Common.{sym, subst}
use Rattle.item_text.specs.Grammar.{item_in, first_fault, lines_fault, block_fault, block, colon_fault}
use Rattle.item_text.specs.Grammar.{type_fault}
use Rattle.item_text.specs.Lines.{lines, has_text, trimmed}
use Rattle.std.specs.Str.{is_utf8, chars}
use Rattle.item_text.specs.declared.item.Item.{Item}
use Rattle.keeper_columns.specs.Columns.{text_beside}

-- no line has a `type_`
refused : item_in [] ≡ None
unfolding item_in first_fault lines_fault block_fault block colon_fault type_fault lines has_text trimmed is_utf8 chars
refused = refl

no_item : (item : Item) → item_in [] ≡ Some item → (text : List ℕ) → text ≡ []
no_item item is text =
    let no : item_in [] ≡ None = refused in
    cc

pub reads_beside : (text : List ℕ) (base : Option (List ℕ)) (item : Item) → item_in text ≡ Some item
    → item_in (text_beside text base) ≡ Some item
reads_beside [] None item is = is
reads_beside [] (Some base) item is = subst (λ t. item_in t ≡ Some item) (sym (no_item item is base)) is
reads_beside (byte ∷ bytes) base item is = is
