-- What is made of random bytes.
use Rattle.std.specs.Prelude.{ℕ, ◌≡◌, List, length, take, drop, Option}
use Rattle.jop_outside.specs.Reading.{SoFar}
use Rattle.jed_sealing.specs.declared.grain.Grain.{Grain}

-- the first 16 bytes, and the 8 behind them
abbrev pub grain_of : List ℕ → Grain
grain_of bytes = record { iv = take 16 bytes; salt = take 8 (drop 16 bytes) }

-- made of so many bytes, which are the next of the source, if it tells, and are left no more
pub record IsMadeOfDrawn {T : Type 0} (make : List ℕ → T) (count : ℕ) (before : Option (List ℕ))
    (made : T) (after : Option (List ℕ)) : Type 0 where
  pub bytes : List ℕ
  pub long : length bytes ≡ count
  pub given : SoFar before bytes after
  pub is : made ≡ make bytes
