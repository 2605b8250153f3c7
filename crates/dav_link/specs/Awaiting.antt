-- How a message is waited for: until its head tells how many bytes are missing, and then until they
-- have come.
use Rattle.std.specs.Prelude.{ℕ, ◌-◌, ◌<◌, ◌⊎◌, List, ◌++◌, length, Bool, true, false, Result, Ok, Err}
use Rattle.dav_link.specs.Links.{LinkNow, IsAtEnd}
use Rattle.dav_link.specs.Receiving.{HasKept, HasBroken, HasStarved}
use Rattle.dav_link.specs.declared.error.LinkErr.{LinkErr}
use Rattle.dav_link.specs.declared.error.LinkErr.TheVariants.{Fault, NoMemory, TooLong}

-- how a message is read in the bytes that came so far: by its head so many are missing, or they are too
-- few to say what it is; and how many missing ones are waited for
pub record MessageNow : Type 1 where
  pub misses : List ℕ → ℕ → Type 0
  pub more : List ℕ → Type 0
  pub limit : ℕ

-- what is asked of the reading of every message
pub record IsReadAsItComes (m : MessageNow) : Type 0 where
  -- while bytes are missing they are too few
  pub lacks : (bytes : List ℕ) (missing : ℕ) → m.misses bytes missing → 0 < missing → m.more bytes
  -- bytes that come are missing no longer
  pub falls : (bytes later : List ℕ) (missing : ℕ) → m.misses bytes missing
      → m.misses (bytes ++ later) (missing - length later)
  -- where none is missing they aren't too few
  pub enough : (bytes : List ℕ) → m.misses bytes 0 → ¬ (m.more bytes)
  -- as long as no head tells, they are fewer than a head may have
  pub short : (bytes : List ℕ) → ((missing : ℕ) → ¬ (m.misses bytes missing)) → m.more bytes
      → length bytes < 16_384

-- nothing is missing of a message
abbrev pub MissesNothing : MessageNow → List ℕ → Type 0
MissesNothing m bytes = ¬ (m.more bytes)

-- the head tells how many bytes are missing, or nothing is missing
abbrev pub HasHead : MessageNow → List ℕ → Type 0
HasHead m bytes = ((missing : ℕ) × m.misses bytes missing) ⊎ MissesNothing m bytes

-- no head is whole, and one may still be
pub record HasNoHead (m : MessageNow) (bytes : List ℕ) : Type 0 where
  pub more : m.more bytes
  pub short : length bytes < 16_384

-- whether that is so
abbrev pub OpensOrNot : MessageNow → List ℕ → Bool → Type 0
OpensOrNot m bytes true = HasNoHead m bytes
OpensOrNot m bytes false = HasHead m bytes

-- what was kept is all that was read, P holds of it, and the link didn't fail
pub record HasHeld (P : List ℕ → Type 0) (old : LinkNow) (before : List ℕ) (new : LinkNow)
    (after : List ℕ) : Type 0 where
  pub bytes : List ℕ
  pub kept : HasKept old before new after bytes
  pub holds : P after

-- the link ended before the message was whole
pub record HasEndedEarly (m : MessageNow) (old : LinkNow) (before : List ℕ) (new : LinkNow)
    (after : List ℕ) : Type 0 where
  pub bytes : List ℕ
  pub kept : HasKept old before new after bytes
  pub more : m.more after
  pub ended : IsAtEnd new.left

-- the head tells that more bytes are missing than are waited for
abbrev pub MissesTooMany : MessageNow → List ℕ → Type 0
MissesTooMany m bytes = (missing : ℕ) × m.misses bytes missing × (m.limit < missing)

-- why waiting gave nothing
abbrev pub FailsAwaiting : MessageNow → LinkErr → LinkNow → List ℕ → LinkNow → List ℕ → Type 0
FailsAwaiting m Fault old before new after = HasBroken old new
FailsAwaiting m NoMemory old before new after = HasStarved old new
FailsAwaiting m TooLong old before new after = HasHeld (MissesTooMany m) old before new after

-- what waiting until P holds comes to
abbrev pub Awaits : MessageNow → (List ℕ → Type 0) → LinkNow → List ℕ → Result Bool LinkErr
    → LinkNow → List ℕ → Type 0
Awaits m P old before (Ok true) new after = HasHeld P old before new after
Awaits m P old before (Ok false) new after = HasEndedEarly m old before new after
Awaits m P old before (Err error) new after = FailsAwaiting m error old before new after

-- what waiting for the head comes to
abbrev pub AwaitsHead : MessageNow → LinkNow → List ℕ → Result Bool LinkErr → LinkNow → List ℕ → Type 0
AwaitsHead m old before result new after = Awaits m (HasHead m) old before result new after

-- what waiting for the whole message comes to
abbrev pub AwaitsMessage : MessageNow → LinkNow → List ℕ → Result Bool LinkErr → LinkNow → List ℕ
    → Type 0
AwaitsMessage m old before result new after = Awaits m (MissesNothing m) old before result new after
