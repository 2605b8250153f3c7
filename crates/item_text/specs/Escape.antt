-- Values with their backslashes, line feeds and carriage returns escaped.
use Rattle.std.specs.Prelude.{ℕ, Bool, ◌||◌, ◌&&◌, List, [], ◌∷◌, ◌==◌, if◌then◌else◌}
use Rattle.std.specs.List.{flat_map}

-- a backslash, a line feed or a carriage return
abbrev pub is_special : ℕ → Bool
is_special b = b == 92 || b == 10 || b == 13

-- the letter that stands behind a backslash for the byte: a backslash, n or r
abbrev pub letter_of : ℕ → ℕ
letter_of b = if b == 10 then 110 else (if b == 13 then 114 else b)

-- a special byte is two: a backslash and its letter
abbrev pub escaped_byte : ℕ → List ℕ
escaped_byte b = if is_special b then 92 ∷ letter_of b ∷ [] else b ∷ []

-- each byte escaped
abbrev pub escaped : List ℕ → List ℕ
escaped value = flat_map escaped_byte value

-- a letter that has a meaning behind a backslash
abbrev pub is_letter : ℕ → Bool
is_letter c = c == 92 || c == 110 || c == 114

-- the byte that the letter means
abbrev pub meant_by : ℕ → ℕ
meant_by c = if c == 110 then 10 else (if c == 114 then 13 else c)

-- from left to right, a backslash with its letter is the byte that it means; every other backslash stays
unfoldable pub unescaped : List ℕ → List ℕ
unescaped [] = []
unescaped (b ∷ []) = b ∷ []
unescaped (b ∷ c ∷ bs) =
    if b == 92 && is_letter c then meant_by c ∷ unescaped bs else b ∷ unescaped (c ∷ bs)
