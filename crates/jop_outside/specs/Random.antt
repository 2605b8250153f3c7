-- What is asked of every source of random bytes, and the generator of stated numbers.
use Rattle.std.specs.Prelude.{ℕ, ◌≡◌, ◌≤◌, ◌+◌, ◌*◌, ◌/◌, ◌%◌, ◌^◌, List, length, take, drop, Option, Some, None, Result, Ok, Err}
use Rattle.jop_outside.specs.declared.failed.Failed.{Failed}

-- a source of random bytes at a moment: what it gives next, if it tells, and how often it has failed
pub record EntropyNow : Type 0 where
  pub left : Option (List ℕ)
  pub faults : ℕ

-- the slice holds the first of the bytes that were left, of which there were enough, and they are left no more
pub record IsFilled (before into : List ℕ) (after : Option (List ℕ)) : Type 0 where
  pub enough : length into ≤ length before
  pub filled : into ≡ take (length into) before
  pub left : after ≡ Some (drop (length into) before)

-- what a source of random bytes has left after it filled a slice, if it tells: all if it failed
abbrev pub Fills : Option (List ℕ) → Result (Unit {0}) Failed → List ℕ → Option (List ℕ) → Type 0
Fills None result into after = after ≡ None
Fills (Some before) (Ok done) into after = IsFilled before into after
Fills (Some before) (Err e) into after = after ≡ Some before

-- ---- stated numbers

-- the state after one: a linear congruential generator of 64 bits, with the numbers of D. E. Knuth's MMIX
abbrev pub drawn_state : ℕ → ℕ
drawn_state state = (state * 6364136223846793005 + 1442695040888963407) % 2 ^ 64

-- the number that is drawn with a state: its 31 highest bits
abbrev pub drawn_number : ℕ → ℕ
drawn_number state = state / 2 ^ 33
