-- Lists that are in order behind a key.
use Rattle.std.specs.Prelude.{ℕ, List, Option, Some, None}
use Rattle.jop_base.specs.Keyed.{IsAfter, IsSorted}

-- the items stand in the order of their keys, and behind this key if there is one
abbrev pub IsSortedFrom : {T : Type 0} → (T → List ℕ) → Option (List ℕ) → List T → Type 0
IsSortedFrom key None xs = IsSorted key xs
IsSortedFrom key (Some k) xs = IsAfter key k xs × IsSorted key xs
