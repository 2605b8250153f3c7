-- Ids of random bytes.
use Rattle.std.specs.Prelude.{ℕ, ◌≤◌, ◌≡◌, List, length, take, drop, Option, Some, None, Result, Ok, Err}
use Rattle.hex.specs.Hex.{encode_lower}
use Rattle.jop_outside.specs.declared.failed.Failed.{Failed}

-- the id of the first 16 of these bytes
abbrev pub first_id : List ℕ → List ℕ
first_id bytes = encode_lower (take 16 bytes)

-- the id is that of the next 16 bytes, which are left no more
pub record IsDrawn (before id : List ℕ) (after : Option (List ℕ)) : Type 0 where
  pub enough : 16 ≤ length before
  pub is : id ≡ first_id before
  pub left : after ≡ Some (drop 16 before)

-- what a source of random bytes has left once an id was drawn, if it tells: all if it failed
abbrev pub Draws : Option (List ℕ) → Result (List ℕ) Failed → Option (List ℕ) → Type 0
Draws None result after = after ≡ None
Draws (Some before) (Ok id) after = IsDrawn before id after
Draws (Some before) (Err e) after = after ≡ Some before
