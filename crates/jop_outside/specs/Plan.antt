-- Which calls of an object in memory are to fail.
use Rattle.std.specs.Prelude.{ℕ, ◌++◌, ◌+◌, ◌^◌, ◌-◌, List, [], ◌∷◌, Bool, nat_eq, if◌then◌else◌, min, Option, Some, None}

-- how many calls were made, and by their numbers those that fail, with whether they land
pub record Calls : Type 0 where
  pub made : ℕ
  pub failing : List (ℕ × Bool)

-- what is planned for the call of a number: nothing, or a failure that lands or doesn't
abbrev pub fate_of : List (ℕ × Bool) → ℕ → Option Bool
fate_of [] number = None
fate_of (f ∷ fs) number = if nat_eq f.0 number then Some f.1 else fate_of fs number

-- the call of a number is to fail too, and lands all the same or doesn't
abbrev pub with_failing : Calls → ℕ → Bool → Calls
with_failing calls nth landed = record calls { failing = calls.failing ++ (nth, landed) ∷ [] }

-- one call more; at the end of 64 bits the count stays
abbrev pub after_call : Calls → Calls
after_call calls = record calls { made = min (calls.made + 1) (2 ^ 64 - 1) }

-- what is planned for the next call
abbrev pub next_fate : Calls → Option Bool
next_fate calls =
    if nat_eq calls.made (2 ^ 64 - 1) then None else fate_of calls.failing (calls.made + 1)
