-- What is read of a link and kept.
use Rattle.std.specs.Prelude.{ℕ, ◌≡◌, ◌≤◌, ◌<◌, List, ◌++◌, length, Bool, true, false, Result, Ok, Err}
use Rattle.jop_outside.specs.Outside.{HasRisen}
use Rattle.dav_link.specs.Links.{LinkNow, ReadsAlone, TakesBytes, IsAtEnd}
use Rattle.dav_link.specs.declared.error.LinkErr.{LinkErr}
use Rattle.dav_link.specs.declared.error.LinkErr.TheVariants.{Fault, NoMemory, TooLong}

-- these bytes were read, and nothing else was done
pub record HasReadBytes (old : LinkNow) (bytes : List ℕ) (new : LinkNow) : Type 0 where
  pub left : TakesBytes old.left bytes new.left
  pub alone : ReadsAlone old new

-- what was read without a fault stands behind what was kept
pub record HasKept (old : LinkNow) (before : List ℕ) (new : LinkNow) (after : List ℕ)
    (bytes : List ℕ) : Type 0 where
  pub kept : after ≡ before ++ bytes
  pub read : HasReadBytes old bytes new
  pub stays : new.faults ≡ old.faults

-- Some bytes were read, and then the link failed.
pub record HasBroken (old new : LinkNow) : Type 0 where
  pub bytes : List ℕ
  pub read : HasReadBytes old bytes new
  pub rose : HasRisen old.faults new.faults

-- Some bytes were read without a fault, and then there was no memory for them.
pub record HasStarved (old new : LinkNow) : Type 0 where
  pub bytes : List ℕ
  pub read : HasReadBytes old bytes new
  pub stays : new.faults ≡ old.faults

-- why reading on gave nothing
abbrev pub FailsReading : LinkErr → LinkNow → LinkNow → Type 0
FailsReading Fault old new = HasBroken old new
FailsReading NoMemory old new = HasStarved old new
FailsReading TooLong old new = ⊥

-- at least so many bytes more are kept
pub record HasEnough (old : LinkNow) (before : List ℕ) (count : ℕ) (new : LinkNow)
    (after : List ℕ) : Type 0 where
  pub bytes : List ℕ
  pub kept : HasKept old before new after bytes
  pub enough : count ≤ length bytes

-- the link has ended before so many bytes more
pub record LinkHasEnded (old : LinkNow) (before : List ℕ) (count : ℕ) (new : LinkNow)
    (after : List ℕ) : Type 0 where
  pub bytes : List ℕ
  pub kept : HasKept old before new after bytes
  pub short : length bytes < count
  pub ended : IsAtEnd new.left

-- what reading on until so many bytes more are kept comes to
abbrev pub ReadsMore : LinkNow → List ℕ → ℕ → Result Bool LinkErr → LinkNow → List ℕ → Type 0
ReadsMore old before count (Ok true) new after = HasEnough old before count new after
ReadsMore old before count (Ok false) new after = LinkHasEnded old before count new after
ReadsMore old before count (Err error) new after = FailsReading error old new
