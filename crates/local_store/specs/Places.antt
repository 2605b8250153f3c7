-- Where an item stands in a sorted list, or would stand.
use Rattle.std.specs.Prelude.{ℕ, ◌≡◌, ◌≤◌, ◌<◌, List, length, true}
use Rattle.std.specs.List.{AllWithin, HoldsAt}
use Rattle.jop_base.specs.Keyed.{text_lt}

-- the item at this place has the key
pub record IsPlaceOf {T : Type 0} (key : T → List ℕ) (xs : List T) (k : List ℕ) (place : ℕ) : Type 0 where
  pub within : place < length xs
  pub has_key : HoldsAt (λ x. key x ≡ k) xs place

-- the items before this place come before the key, and those from it on come after the key
pub record IsGapFor {T : Type 0} (key : T → List ℕ) (xs : List T) (k : List ℕ) (place : ℕ) : Type 0 where
  pub within : place ≤ length xs
  pub before : AllWithin (λ x. text_lt (key x) k ≡ true) xs 0 place
  pub behind : AllWithin (λ x. text_lt k (key x) ≡ true) xs place (length xs)
