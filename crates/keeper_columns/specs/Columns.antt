-- How flags, ids and texts stand in the columns of a database.
use Rattle.std.specs.Prelude.{ℕ, ℤ, pos, List, [], ◌∷◌, Bool, if◌then◌else◌}
use Rattle.std.specs.Prelude.{Option, Some, None}
use Rattle.std.specs.List.{flat_map}

-- a flag is 1 or 0
abbrev pub flag : Bool → ℤ
flag set = if set then pos 1 else pos 0

-- the digits of ids, one after the other
abbrev pub id_digits : List (List ℕ) → List ℕ
id_digits ids = flat_map (λ id. id) ids

-- The text of a record's item. An earlier program left the content empty where the base is that text.
abbrev pub text_beside : List ℕ → Option (List ℕ) → List ℕ
text_beside [] (Some base) = base
text_beside [] None = []
text_beside (byte ∷ bytes) base = byte ∷ bytes
