-- How a message is waited for.
use Rattle.std.proofs.Common.{◌≡◌, ◌≤◌, ◌<◌, ◌-◌, sym, subst, arith, ℕ, List, ◌++◌, length, Bool, true, false, Result, Ok, Err}
use Rattle.std.proofs.lemmas.Bool.{false≢true}
use Rattle.dav_link.specs.Links.{LinkNow}
use Rattle.dav_link.specs.Receiving.{HasKept, ReadsMore, FailsReading}
use Rattle.dav_link.specs.declared.error.LinkErr.{LinkErr}
use Rattle.dav_link.specs.declared.error.LinkErr.TheVariants.{Fault, NoMemory, TooLong}
use Rattle.dav_link.specs.Awaiting.{MessageNow, IsReadAsItComes, HasHeld, HasEndedEarly, Awaits, FailsAwaiting, MissesNothing}
use Rattle.dav_link.proofs.LinkLaws.{kept_more, fails_later}

-- ---- the head

-- what fails when more is read fails what is waited for
awaits_reading : (m : MessageNow) (old new : LinkNow) (before after : List ℕ) (error : LinkErr)
    → FailsReading error old new → FailsAwaiting m error old before new after
awaits_reading m old new before after Fault h = h
awaits_reading m old new before after NoMemory h = h
awaits_reading m old new before after TooLong h = absurd h

pub read_fails : (m : MessageNow) (old mid new : LinkNow) (before kept after bytes : List ℕ) (count : ℕ)
    (r : Result Bool LinkErr) (error : LinkErr) → HasKept old before mid kept bytes
    → ReadsMore mid kept count r new after → r ≡ Err error
    → FailsAwaiting m error old before new after
read_fails m old mid new before kept after bytes count r error held reads is =
    let A : Result Bool LinkErr → Type 0 = λ x. ReadsMore mid kept count x new after in
    awaits_reading m old new before after error
    (fails_later old mid new before kept bytes error held (subst A is reads))

-- ---- the body

missing_behind : (m : MessageNow) (before after bytes : List ℕ) (missing : ℕ) → IsReadAsItComes m
    → after ≡ before ++ bytes → m.misses before missing → m.misses after (missing - length bytes)
missing_behind m before after bytes missing laws joined is =
    subst (λ (l : List ℕ). m.misses l (missing - length bytes)) (sym joined)
    (laws.falls before bytes missing is)

enough_came : (m : MessageNow) (before after bytes : List ℕ) (missing : ℕ) → IsReadAsItComes m
    → after ≡ before ++ bytes → m.misses before missing → missing ≤ length bytes
    → MissesNothing m after
enough_came m before after bytes missing laws joined is enough =
    let zero : missing - length bytes ≡ 0 = omega arith in
    laws.enough after (subst (λ (n : ℕ). m.misses after n) zero
    (missing_behind m before after bytes missing laws joined is))

short_is_more : (m : MessageNow) (before after bytes : List ℕ) (missing : ℕ) → IsReadAsItComes m
    → after ≡ before ++ bytes → m.misses before missing → length bytes < missing → m.more after
short_is_more m before after bytes missing laws joined is short =
    laws.lacks after (missing - length bytes)
    (missing_behind m before after bytes missing laws joined is) (omega arith)

pub body_comes : (m : MessageNow) (old new : LinkNow) (before after : List ℕ) (missing : ℕ)
    (came : Bool) → IsReadAsItComes m → m.misses before missing
    → ReadsMore old before missing (Ok came) new after
    → Awaits m (MissesNothing m) old before (Ok came) new after
body_comes m old new before after missing true laws is reads = record {
  bytes = reads.bytes;
  kept = reads.kept;
  holds = enough_came m before after reads.bytes missing laws reads.kept.kept is reads.enough;
}
body_comes m old new before after missing false laws is reads = record {
  bytes = reads.bytes;
  kept = reads.kept;
  more = short_is_more m before after reads.bytes missing laws reads.kept.kept is reads.short;
  ended = reads.ended;
}

-- ---- the head and then the body

fails_waiting_later : (m : MessageNow) (old mid new : LinkNow) (before kept after bytes : List ℕ)
    (error : LinkErr) → HasKept old before mid kept bytes → FailsAwaiting m error mid kept new after
    → FailsAwaiting m error old before new after
fails_waiting_later m old mid new before kept after bytes Fault held h =
    fails_later old mid new before kept bytes Fault held h
fails_waiting_later m old mid new before kept after bytes NoMemory held h =
    fails_later old mid new before kept bytes NoMemory held h
fails_waiting_later m old mid new before kept after bytes TooLong held h = record {
  bytes = bytes ++ h.bytes;
  kept = kept_more old mid new before kept after bytes h.bytes held h.kept;
  holds = h.holds;
}

-- what was kept first makes no difference to what waiting on comes to
pub awaits_later : (m : MessageNow) (P : List ℕ → Type 0) (old mid new : LinkNow)
    (before kept after bytes : List ℕ) (r : Result Bool LinkErr)
    → HasKept old before mid kept bytes → Awaits m P mid kept r new after
    → Awaits m P old before r new after
awaits_later m P old mid new before kept after bytes (Ok true) held come = record {
  bytes = bytes ++ come.bytes;
  kept = kept_more old mid new before kept after bytes come.bytes held come.kept;
  holds = come.holds;
}
awaits_later m P old mid new before kept after bytes (Ok false) held early = record {
  bytes = bytes ++ early.bytes;
  kept = kept_more old mid new before kept after bytes early.bytes held early.kept;
  more = early.more;
  ended = early.ended;
}
awaits_later m P old mid new before kept after bytes (Err error) held fails =
    fails_waiting_later m old mid new before kept after bytes error held fails

pub awaits_fails : (m : MessageNow) (P : List ℕ → Type 0) (old mid new : LinkNow)
    (before kept after bytes : List ℕ) (r : Result Bool LinkErr) (error : LinkErr)
    → HasKept old before mid kept bytes → Awaits m P mid kept r new after → r ≡ Err error
    → FailsAwaiting m error old before new after
awaits_fails m P old mid new before kept after bytes r error held awaits is =
    let A : Result Bool LinkErr → Type 0 = λ x. Awaits m P mid kept x new after in
    fails_waiting_later m old mid new before kept after bytes error held (subst A is awaits)

-- ---- by the answer

pub awaits_true : (m : MessageNow) (P : List ℕ → Type 0) (old new : LinkNow)
    (before after : List ℕ) (came : Bool) → Awaits m P old before (Ok came) new after
    → came ≡ true → HasHeld P old before new after
awaits_true m P old new before after true h e = h
awaits_true m P old new before after false h e = absurd (false≢true e)

pub awaits_false : (m : MessageNow) (P : List ℕ → Type 0) (old new : LinkNow)
    (before after : List ℕ) (came : Bool) → Awaits m P old before (Ok came) new after
    → came ≡ false → HasEndedEarly m old before new after
awaits_false m P old new before after true h e = absurd (false≢true (sym e))
awaits_false m P old new before after false h e = h
