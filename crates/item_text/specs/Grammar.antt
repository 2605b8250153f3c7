-- The text of an item: how it is written, which item a text reads as, and the first reason to refuse a text.
-- From Joplin's item serialisation: title, body and properties, with an empty line between each two.
use Rattle.std.specs.Prelude.{◌≡◌, ℕ, ◌+◌, ◌-◌, Bool, true, false, List, [], ◌∷◌, ◌++◌, length, map, drop, Option, Some, None, ◌==◌, if◌then◌else◌, ◌⊎◌}
use Rattle.std.specs.List.{list_all, before_first, after_first}
use Rattle.std.specs.Str.{IsUtf8, is_utf8}
use Rattle.item_text.specs.declared.item.Item.{Item}
use Rattle.item_text.specs.declared.item.Prop.{Prop}
use Rattle.item_text.specs.declared.bad_item.BadItem.{BadItem}
use Rattle.item_text.specs.declared.bad_item.BadWhy.TheVariants.{NotText, NoColon, NoType, TypeValue}
use Rattle.item_text.specs.Lines.{has, lines, joined, trimmed, has_text}
use Rattle.item_text.specs.Props.{has_key, type_key}
use Rattle.item_text.specs.Valid.{is_type_value}

-- ---- writing

-- the title and two line feeds, if there is a title
abbrev pub title_text : Option (List ℕ) → List ℕ
title_text None = []
title_text (Some title) = title ++ 10 ∷ 10 ∷ []

-- two line feeds behind a body, if it isn't empty
abbrev pub gap_behind : List ℕ → List ℕ
gap_behind [] = []
gap_behind (b ∷ bs) = 10 ∷ 10 ∷ []

-- the body and two line feeds, if it isn't empty
abbrev pub body_text : List ℕ → List ℕ
body_text [] = []
body_text (b ∷ bs) = (b ∷ bs) ++ 10 ∷ 10 ∷ []

-- the key, a colon, a space and the value
abbrev pub prop_text : Prop → List ℕ
prop_text p = p.key ++ 58 ∷ 32 ∷ p.value

-- the title, the body, and a line for each pair; nothing follows the last line
unfoldable pub written : Item → List ℕ
written item = title_text item.title ++ (body_text item.body ++ joined (map prop_text item.props))

-- ---- reading

abbrev pub is_colon : ℕ → Bool
is_colon b = b == 58

-- the key before the first colon and the value after it, each trimmed
unfoldable pub pair_of : List ℕ → Prop
pair_of line =
    record {
      key = trimmed (before_first is_colon line);
      value = trimmed (after_first is_colon line);
    }

-- the lines above the last empty line, and those below it; if no line is empty, all are below
abbrev pub AreParts : List (List ℕ) → List (List ℕ) → List (List ℕ) → Type 0
AreParts all above below =
    (list_all has_text below ≡ true)
    × (((empty : List ℕ) × (has_text empty ≡ false) × (all ≡ above ++ empty ∷ below))
    ⊎ ((above ≡ []) × (all ≡ below)))

-- the first line, if there is one
abbrev pub title_of : List (List ℕ) → Option (List ℕ)
title_of [] = None
title_of (line ∷ ls) = Some line

-- above stand the title, a line that is dropped, and the body; below stand the pairs
unfoldable pub item_of_lines : List (List ℕ) → List (List ℕ) → Item
item_of_lines above below =
    record { title = title_of above; body = joined (drop 2 above); props = map pair_of below }

-- the bytes are a text whose parts are the item's
unfoldable pub ReadsAs : List ℕ → Item → Type 0
ReadsAs bytes item =
    IsUtf8 bytes
    × ((above : List (List ℕ)) × (below : List (List ℕ))
    × AreParts (lines bytes) above below × (item ≡ item_of_lines above below))

-- ---- refusing

-- the property lines: the longest end of the lines in which none is empty
unfoldable pub block : List (List ℕ) → List (List ℕ)
block [] = []
block (line ∷ ls) = if list_all has_text (line ∷ ls) then line ∷ ls else block ls

-- the lines above the last empty one
unfoldable pub above_block : List (List ℕ) → List (List ℕ)
above_block [] = []
above_block (line ∷ ls) = if list_all has_text ls then [] else line ∷ above_block ls

-- the one reason, or else the other
abbrev pub or_else : Option BadItem → Option BadItem → Option BadItem
or_else None other = other
or_else (Some bad) other = Some bad

-- the last of the lines that has no colon, if the first line has the number n
unfoldable pub colon_fault : ℕ → List (List ℕ) → Option BadItem
colon_fault n [] = None
colon_fault n (line ∷ ls) =
    or_else (colon_fault (n + 1) ls)
    (if has 58 line then None else Some (record { line = n; why = NoColon }))

-- the topmost `type_`, if there is none or its value isn't one to three digits
unfoldable pub type_fault : ℕ → List Prop → Option BadItem
type_fault n [] = Some (record { line = 0; why = NoType })
type_fault n (p ∷ ps) =
    if has_key type_key p
    then (if is_type_value p.value then None else Some (record { line = n; why = TypeValue }))
    else type_fault (n + 1) ps

-- what is wrong with property lines of which the first has the number n
unfoldable pub block_fault : ℕ → List (List ℕ) → Option BadItem
block_fault n ls = or_else (colon_fault n ls) (type_fault n (map pair_of ls))

-- what is wrong with a text of these lines
unfoldable pub lines_fault : List (List ℕ) → Option BadItem
lines_fault ls = block_fault (length ls - length (block ls) + 1) (block ls)

-- the first refusal: the bytes are no text, a property line has no colon, there is no `type_`, or its value is none
unfoldable pub first_fault : List ℕ → Option BadItem
first_fault bytes =
    if is_utf8 bytes then lines_fault (lines bytes) else Some (record { line = 0; why = NotText })

-- ---- what a text is

-- the item if there is no reason to refuse it
abbrev pub unless_bad : Option BadItem → Item → Option Item
unless_bad None item = Some item
unless_bad (Some bad) item = None

-- the item that the bytes read to, if nothing refuses them
unfoldable pub item_in : List ℕ → Option Item
item_in bytes =
    unless_bad (first_fault bytes) (item_of_lines (above_block (lines bytes)) (block (lines bytes)))
