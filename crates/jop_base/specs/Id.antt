-- Ids, and the numbers that they are.
use Rattle.std.specs.List.{list_all}
use Rattle.std.specs.Prelude.{ℕ, ◌+◌, ◌-◌, ◌*◌, ◌^◌, Bool, true, ◌||◌, ◌&&◌, List, [], ◌∷◌, length, ◌≡◌, nat_le, nat_eq, All, if◌then◌else◌}

-- a lower-case hexadecimal digit, as a byte
abbrev pub is_digit : ℕ → Bool
is_digit d = (nat_le 48 d && nat_le d 57) || (nat_le 97 d && nat_le d 102)

abbrev pub AreDigits : List ℕ → Type 0
AreDigits text = All (λ d. is_digit d ≡ true) text

-- the text of an id
pub record IsIdText (text : List ℕ) : Type 0 where
  pub long : length text ≡ 32
  pub digits : AreDigits text

-- whether the text is that of an id
abbrev pub is_id : List ℕ → Bool
is_id text = nat_eq (length text) 32 && list_all is_digit text

-- what a digit counts
abbrev pub digit_value : ℕ → ℕ
digit_value d = if nat_le d 57 then d - 48 else d - 87

-- the number that digits write, the first counting most
abbrev pub number_of : List ℕ → ℕ
number_of [] = 0
number_of (d ∷ ds) = digit_value d * 16 ^ length ds + number_of ds

-- the digit of one more, and 0 after the greatest
abbrev pub digit_after : ℕ → ℕ
digit_after d = if nat_eq d 57 then 97 else if nat_eq d 102 then 48 else d + 1
