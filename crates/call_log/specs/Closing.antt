-- What closing a log comes to, beside the trails of its seats. They are counted from 0, and the
-- seats from 1.
use Rattle.std.specs.Prelude.{ℕ, ◌+◌, ◌≤◌, ◌≡◌, ◌⊎◌, List, length, All, take, slice_get, Some, None}
use Rattle.jop_target.specs.declared.event.Event.{Event}
use Rattle.call_log.specs.declared.entry.LogEntry.{LogEntry}
use Rattle.call_log.specs.declared.mismatch.Mismatch.{Mismatch}
use Rattle.call_log.specs.Agreeing.{AgreesWithLog, entry_event}
use Rattle.call_log.specs.Differing.{Differs}

-- the trail that stands at a place agrees with the log
abbrev pub AgreesAt : {T : Type 0} → (T → List Event) → List LogEntry → List T → ℕ → Type 0
AgreesAt {T} trail log trails place =
    (t : T) → slice_get trails place ≡ Some t → AgreesWithLog log (place + 1) (trail t)

-- each of these trails agrees with the log
abbrev pub AllAgree : {T : Type 0} → (T → List Event) → List LogEntry → List T → Type 0
AllAgree trail log trails = (place : ℕ) → AgreesAt trail log trails place

-- the entry is of a seat from 1 to this one
abbrev pub IsSeated : ℕ → LogEntry → Type 0
IsSeated seats e = (1 ≤ e.seat) × (e.seat ≤ seats)

-- each entry is
abbrev pub SeatsWithin : ℕ → List LogEntry → Type 0
SeatsWithin seats log = All (IsSeated seats) log

-- the mismatch is that of one of these trails
pub record IsOfTrail {T : Type 0} (trail : T → List Event) (log : List LogEntry) (trails : List T)
    (m : Mismatch) : Type 0 where
  pub place : ℕ
  pub own : T
  pub here : slice_get trails place ≡ Some own
  pub seat : m.seat ≡ place + 1
  pub differs : Differs log (trail own) m

-- the mismatch is that of the first entry of a seat without a trail
pub record IsStray (seats : ℕ) (log : List LogEntry) (m : Mismatch) : Type 0 where
  pub place : ℕ
  pub entry : LogEntry
  pub here : slice_get log place ≡ Some entry
  pub first : SeatsWithin seats (take place log)
  pub stray : ¬ IsSeated seats entry
  pub is : m ≡ record { seat = entry.seat; logged = Some (entry_event entry); told = None }

-- the mismatch is one of a trail; or all trails agree, and it is that of an entry without one
abbrev pub HasMismatch : {T : Type 0} → (T → List Event) → List LogEntry → List T → Mismatch
    → Type 0
HasMismatch trail log trails m =
    IsOfTrail trail log trails m ⊎ (AllAgree trail log trails × IsStray (length trails) log m)
