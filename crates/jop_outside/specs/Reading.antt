-- A source that is read to its end, up to a limit.
use Rattle.std.specs.Prelude.{ℕ, ◌+◌, ◌≤◌, ◌<◌, ◌≡◌, List, [], ◌++◌, length, drop, Bool, true, false, Option, Some, None, Result, Ok, Err}
use Rattle.jop_outside.specs.Outside.{SourceNow, HasRisen}
use Rattle.jop_outside.specs.declared.reading.ReadErr.{ReadErr}
use Rattle.jop_outside.specs.declared.reading.ReadErr.TheVariants.{Fault, TooLarge, NoMemory}

-- all that was left is these bytes, and nothing is left now
abbrev pub IsAllOf : Option (List ℕ) → List ℕ → Option (List ℕ) → Type 0
IsAllOf None bytes after = after ≡ None
IsAllOf (Some before) bytes after = (bytes ≡ before) × (after ≡ Some [])

-- more was left than the limit, and a byte more than the limit was read
abbrev pub IsPastLimit : ℕ → Option (List ℕ) → Option (List ℕ) → Type 0
IsPastLimit limit None after = after ≡ None
IsPastLimit limit (Some before) after =
    (limit < length before) × (after ≡ Some (drop (limit + 1) before))

-- what is left now was left before too, behind at most the limit and a byte
abbrev pub IsRestOf : ℕ → Option (List ℕ) → Option (List ℕ) → Type 0
IsRestOf limit None after = after ≡ None
IsRestOf limit (Some before) after =
    (count : ℕ) × (count ≤ limit + 1) × (after ≡ Some (drop count before))

-- these bytes were all of the source, which is within its limit, and it didn't fail
pub record WasRead (limit : ℕ) (old : SourceNow) (bytes : List ℕ) (new : SourceNow) : Type 0 where
  pub all : IsAllOf old.left bytes new.left
  pub within : length bytes ≤ limit
  pub stays : new.faults ≡ old.faults

-- the source is past its limit, and it didn't fail
pub record WasTooLarge (limit : ℕ) (old new : SourceNow) : Type 0 where
  pub past : IsPastLimit limit old.left new.left
  pub stays : new.faults ≡ old.faults

-- what reading a source to its end comes to
abbrev pub ReadsAll : ℕ → SourceNow → Result (List ℕ) ReadErr → SourceNow → Type 0
ReadsAll limit old (Ok bytes) new = WasRead limit old bytes new
ReadsAll limit old (Err TooLarge) new = WasTooLarge limit old new
ReadsAll limit old (Err Fault) new = HasRisen old.faults new.faults
ReadsAll limit old (Err NoMemory) new = new.faults ≡ old.faults

-- these bytes were read, and the rest is left
abbrev pub SoFar : Option (List ℕ) → List ℕ → Option (List ℕ) → Type 0
SoFar None bytes after = after ≡ None
SoFar (Some before) bytes after = (rest : List ℕ) × (before ≡ bytes ++ rest) × (after ≡ Some rest)

-- these bytes were read without a fault, and no more than tell whether the source is past its limit
pub record IsAt (limit : ℕ) (old : SourceNow) (bytes : List ℕ) (new : SourceNow) : Type 0 where
  pub so_far : SoFar old.left bytes new.left
  pub within : length bytes ≤ limit + 1
  pub stays : new.faults ≡ old.faults

-- what reading a piece more comes to: there was one, or the source had ended, or a refusal
abbrev pub ReadsOn : ℕ → SourceNow → Result Bool ReadErr → List ℕ → SourceNow → Type 0
ReadsOn limit old (Ok true) bytes new = IsAt limit old bytes new
ReadsOn limit old (Ok false) bytes new = WasRead limit old bytes new
ReadsOn limit old (Err error) bytes new = ReadsAll limit old (Err error) new
