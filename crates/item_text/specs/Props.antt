-- The pairs of an item: the value of a key, and setting one. Of a repeated key the topmost pair counts.
use Rattle.std.specs.Prelude.{ℕ, Bool, false, List, [], ◌∷◌, Option, Some, None, if◌then◌else◌, codes, bytes_eq}
use Rattle.std.specs.List.{list_any}
use Rattle.item_text.specs.declared.item.Prop.{Prop}

-- the key whose value says what kind of item it is
abbrev pub type_key : List ℕ
type_key = codes "type_"

-- whether the pair has the key
abbrev pub has_key : List ℕ → Prop → Bool
has_key key p = bytes_eq p.key key

-- the topmost value of the key
unfoldable pub value_of : List ℕ → List Prop → Option (List ℕ)
value_of key [] = None
value_of key (p ∷ ps) = if has_key key p then Some p.value else value_of key ps

-- whether it is there, and is this text
abbrev pub is_text : List ℕ → Option (List ℕ) → Bool
is_text text None = false
is_text text (Some other) = bytes_eq other text

-- whether the topmost value of the key is this one
abbrev pub has_value : List ℕ → List ℕ → List Prop → Bool
has_value key value props = is_text value (value_of key props)

-- with p in place of the topmost pair of its key
unfoldable pub replaced : Prop → List Prop → List Prop
replaced p [] = []
replaced p (q ∷ qs) = if has_key p.key q then p ∷ qs else q ∷ replaced p qs

-- with p before the first `type_`, or at the end if there is none
unfoldable pub inserted : Prop → List Prop → List Prop
inserted p [] = p ∷ []
inserted p (q ∷ qs) = if has_key type_key q then p ∷ q ∷ qs else q ∷ inserted p qs

-- with p in place of the topmost pair of its key, or inserted if the key has none
unfoldable pub with_prop : Prop → List Prop → List Prop
with_prop p ps = if list_any (has_key p.key) ps then replaced p ps else inserted p ps
