-- The first digits of an id, as they are kept: in 32 digits, with zeros behind them.
use Rattle.std.specs.Prelude.{ℕ, ◌-◌, ◌≡◌, List, ◌++◌, length, replicate, take}

-- the digits, and zeros behind them
abbrev pub with_zeros : List ℕ → List ℕ
with_zeros text = text ++ replicate (32 - length text) 48

-- these are so many digits, and zeros behind them
pub record IsPadded (digits : List ℕ) (len : ℕ) : Type 0 where
  pub zeros : with_zeros (take len digits) ≡ digits
  pub long : length (take len digits) ≡ len
