-- What the parts of the reader answer.
use Rattle.std.specs.Prelude.{◌≡◌, ◌≤◌, ◌⊎◌, ℕ, ◌+◌, ◌-◌, true, List, [], ◌∷◌, ◌++◌, length, map, Option, Some, None, if◌then◌else◌}
use Rattle.std.specs.Borrow.{Bor}
use Rattle.std.specs.List.{list_all}
use Rattle.item_text.specs.declared.bad_item.BadItem.{BadItem}
use Rattle.item_text.specs.declared.bad_item.BadWhy.TheVariants.{NoType, TypeValue}
use Rattle.item_text.specs.Lines.{has, lines, joined}
use Rattle.item_text.specs.Valid.{is_type_value}
use Rattle.item_text.specs.Grammar.{AreParts, pair_of, prop_text, type_fault}

-- the lines of a text that may be absent
abbrev pub lines_of : Option (Bor (List ℕ)) → List (List ℕ)
lines_of None = []
lines_of (Some text) = lines text.now

-- the text is this part, or goes on behind a line feed
abbrev pub IsFirstPart : List ℕ → List ℕ → Type 0
IsFirstPart part text = (text ≡ part) ⊎ ((rest : List ℕ) × (text ≡ part ++ 10 ∷ rest))

-- the lines above the last empty one, and the property lines below it, each with a colon
abbrev pub IsBlock : List (List ℕ) → Option (Bor (List ℕ)) → Option (Bor (List ℕ)) → Type 0
IsBlock all above block =
    AreParts all (lines_of above) (lines_of block) × (list_all (has 58) (lines_of block) ≡ true)

-- what is wrong with a line of the number n as a `type_`
abbrev pub line_fault : ℕ → List (List ℕ) → Option BadItem
line_fault n [] = None
line_fault n (line ∷ ls) =
    if is_type_value (pair_of line).value then None else Some (record { line = n; why = TypeValue })

-- the property lines from the topmost `type_` on, or none if there is none
abbrev pub IsFromType : List (List ℕ) → Option (Bor (List ℕ)) → Type 0
IsFromType all None =
    (n : ℕ) → type_fault n (map pair_of all) ≡ Some (record { line = 0; why = NoType })
IsFromType all (Some rest) =
    (length (lines rest.now) ≤ length all)
    × ((n : ℕ) → type_fault n (map pair_of all)
    ≡ line_fault (n + (length all - length (lines rest.now))) (lines rest.now))

-- the canonical form of property lines
abbrev pub block_text : List (List ℕ) → List ℕ
block_text ls = joined (map prop_text (map pair_of ls))
