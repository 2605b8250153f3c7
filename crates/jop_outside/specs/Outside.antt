-- What is asked of each object of the outside.
use Rattle.std.specs.Prelude.{ℕ, ◌+◌, ◌-◌, ◌^◌, ◌<◌, ◌≤◌, ◌≡◌, ◌++◌, List, [], length, take, drop, min, Option, Some, None, Result, Ok, Err}
use Rattle.jop_outside.specs.declared.failed.Failed.{Failed}

-- a source at a moment: what is still to be read, if it tells, and how often it has failed
pub record SourceNow : Type 0 where
  pub left : Option (List ℕ)
  pub faults : ℕ

-- a sink at a moment: what was written, if it tells, and how often it has failed
pub record SinkNow : Type 0 where
  pub written : Option (List ℕ)
  pub faults : ℕ

-- ---- faults

-- a count of faults after one more; at the end of 64 bits it stays
abbrev pub risen : ℕ → ℕ
risen before = min (before + 1) (2 ^ 64 - 1)

-- a count of faults has risen; at the end of 64 bits it stays
abbrev pub HasRisen : ℕ → ℕ → Type 0
HasRisen before after = risen before ≤ after

-- a count rises when its object fails, and stays at every other answer
pub record HasCause {T : Type 0} (before : ℕ) (result : Result T Failed) (after : ℕ) : Type 0 where
  pub later : before ≤ after
  pub failed : (e : Failed) → result ≡ Err e → HasRisen before after
  pub stays : (value : T) → result ≡ Ok value → after ≡ before

-- ---- bytes

-- what stands in a sink after a write of these bytes, if it tells: the piece that it took, behind all that stood there
abbrev pub Writes : Option (List ℕ) → List ℕ → Result ℕ Failed → Option (List ℕ) → Type 0
Writes None from result after = after ≡ None
Writes (Some before) from (Ok count) after = after ≡ Some (before ++ take count from)
Writes (Some before) from (Err e) after = after ≡ Some before

-- this many of the bytes that were left stand at the start of the slice and are left no more; none, when there was
-- room, means that none were left
pub record Gives (before : List ℕ) (count : ℕ) (into : List ℕ) (after : Option (List ℕ))
    : Type 0 where
  pub within : count ≤ length before
  pub given : take count into ≡ take count before
  pub left : after ≡ Some (drop count before)
  pub ended : 0 < length into → count ≡ 0 → before ≡ []

-- what a source has left after a read into this slice, if it tells: all but the piece that it gave
abbrev pub Reads : Option (List ℕ) → Result ℕ Failed → List ℕ → Option (List ℕ) → Type 0
Reads None result into after = after ≡ None
Reads (Some before) (Ok count) into after = Gives before count into after
Reads (Some before) (Err e) into after = after ≡ Some before
