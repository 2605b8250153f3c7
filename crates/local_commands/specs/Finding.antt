-- Whether a text has another one in it. Letters of ASCII count in either case, other bytes as they are.
use Rattle.std.specs.Prelude.{ℕ, List, [], ◌∷◌, length, take, map, nat_le, Bool, ◌&&◌, ◌||◌, bytes_eq}
use Rattle.std.specs.Char.{to_ascii_lowercase}

-- the part stands at its beginning
abbrev pub begins_with : List ℕ → List ℕ → Bool
begins_with part text =
    nat_le (length part) (length text)
    && bytes_eq (map to_ascii_lowercase (take (length part) text)) (map to_ascii_lowercase part)

-- the part stands at its beginning, or behind it
abbrev pub has_part : List ℕ → List ℕ → Bool
has_part part [] = begins_with part []
has_part part (b ∷ text) = begins_with part (b ∷ text) || has_part part text
