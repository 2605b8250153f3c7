-- The text of a time, in pieces and by bytes.
use Rattle.std.proofs.Common.{◌≡◌, ℕ, ◌/◌, ◌%◌, List, ◌∷◌, [], refl, slice_index_or}
use Rattle.item_kinds.specs.Calendar.{date_after}
use Rattle.item_kinds.specs.Times.{two_digits, three_digits, four_digits, time_text}

-- the pieces of the text
pub record IsPieces (t : ℕ) (y m d h n s f : List ℕ) : Type 0 where
  pub year : y ≡ four_digits (date_after (t / 86_400_000)).year
  pub month : m ≡ two_digits (date_after (t / 86_400_000)).month
  pub day : d ≡ two_digits (date_after (t / 86_400_000)).day
  pub hour : h ≡ two_digits (t % 86_400_000 / 3_600_000)
  pub minute : n ≡ two_digits (t % 86_400_000 / 60_000 % 60)
  pub second : s ≡ two_digits (t % 86_400_000 / 1_000 % 60)
  pub milli : f ≡ three_digits (t % 86_400_000 % 1_000)

abbrev first : List ℕ → ℕ
first xs = slice_index_or xs 0 0

abbrev second : List ℕ → ℕ
second xs = slice_index_or xs 1 0

abbrev third : List ℕ → ℕ
third xs = slice_index_or xs 2 0

abbrev fourth : List ℕ → ℕ
fourth xs = slice_index_or xs 3 0

pub joined_pieces : (t : ℕ) (y m d h n s f : List ℕ) → IsPieces t y m d h n s f
    → first y ∷ second y ∷ third y ∷ fourth y ∷ 45 ∷ first m ∷ second m ∷ 45 ∷ first d ∷ second d
    ∷ 84 ∷ first h ∷ second h ∷ 58 ∷ first n ∷ second n ∷ 58 ∷ first s ∷ second s ∷ 46 ∷ first f
    ∷ second f ∷ third f ∷ 90 ∷ [] ≡ time_text t
unfolding time_text
joined_pieces t y m d h n s f p =
    rw (p.year, p.month, p.day, p.hour, p.minute, p.second, p.milli) refl
