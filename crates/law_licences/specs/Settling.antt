-- Which changes settle a row that waits to be uploaded.
use Rattle.std.specs.Prelude.{ℕ, ◌≡◌, ◌⊎◌, List, [], ◌∷◌}
use Rattle.local_store.specs.declared.change.Change.{Change}
use Rattle.local_store.specs.declared.change.Change.TheVariants.{Uploaded, Conflict, Moved}

-- the row of this id was uploaded, gave way, or became a conflict note
abbrev pub IsSettling : List ℕ → Change → Type 0
IsSettling id (Uploaded other bytes) = other ≡ id
IsSettling id (Conflict other remote copies) = other ≡ id
IsSettling id (Moved other) = other ≡ id
IsSettling id change = ⊥

-- one of the changes did so
unfoldable pub HasSettled : List ℕ → List Change → Type 0
HasSettled id [] = ⊥
HasSettled id (c ∷ cs) = IsSettling id c ⊎ HasSettled id cs
