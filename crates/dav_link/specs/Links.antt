-- What is asked of every link.
use Rattle.std.specs.Prelude.{ℕ, ◌≡◌, List, [], ◌++◌, Option, Some, None}
use Rattle.jop_outside.specs.Outside.{SinkNow}

-- a link at a moment: what is left to read of it and what was written to it, if it tells, how often
-- it was opened, and how often it has failed; at the end of 64 bits both counts stay
pub record LinkNow : Type 0 where
  pub left : Option (List ℕ)
  pub written : Option (List ℕ)
  pub opened : ℕ
  pub faults : ℕ

-- to open a link changes neither what is left nor what was written
pub record OpensAlone (old new : LinkNow) : Type 0 where
  pub left : new.left ≡ old.left
  pub written : new.written ≡ old.written

-- to read of a link changes nothing that was written, and opens nothing
pub record ReadsAlone (old new : LinkNow) : Type 0 where
  pub written : new.written ≡ old.written
  pub opened : new.opened ≡ old.opened

-- to write to a link changes nothing that is left, and opens nothing
pub record WritesAlone (old new : LinkNow) : Type 0 where
  pub left : new.left ≡ old.left
  pub opened : new.opened ≡ old.opened

-- a link as that to which is written
abbrev pub sink_of : LinkNow → SinkNow
sink_of link = record { written = link.written; faults = link.faults }

-- these bytes were read of a link, and the rest is left, if it tells
abbrev pub TakesBytes : Option (List ℕ) → List ℕ → Option (List ℕ) → Type 0
TakesBytes None bytes after = after ≡ None
TakesBytes (Some before) bytes after = (rest : List ℕ) × (before ≡ bytes ++ rest) × (after ≡ Some rest)

-- nothing is left of a link, if it tells
abbrev pub IsAtEnd : Option (List ℕ) → Type 0
IsAtEnd None = Unit {0}
IsAtEnd (Some left) = left ≡ []
