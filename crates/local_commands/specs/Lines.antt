-- What is printed of items.
use Rattle.std.specs.Prelude.{ℕ, List, [], ◌∷◌, ◌++◌}

-- an id on a line of its own
abbrev pub id_line : List ℕ → List ℕ
id_line id = id ++ 10 ∷ []
