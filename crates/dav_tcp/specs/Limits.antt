-- How long a link over TCP waits.
use Rattle.std.specs.Prelude.{ℕ, ◌≡◌, ◌+◌, ◌-◌, ◌*◌, ◌/◌, ◌^◌, ◌||◌, min, nat_lt, Bool, true, false, Option, Some, None, option_map}
use Rattle.dav_tcp.specs.declared.pace.Pace.{Pace}

-- ---- how long a request and its response may take

-- how many seconds they may take, of which so many bytes went and came so far, before the last wait
-- for the peer begins
abbrev pub allowed_seconds : ℕ → ℕ
allowed_seconds bytes = min (30 + bytes / 16_384) 85

-- how many milliseconds one wait for the peer is given
abbrev pub wait_millis : ℕ
wait_millis = 20_000

-- how many it takes at most: the system's timers of so long a time may run an eighth longer
abbrev pub longest_wait : ℕ
longest_wait = 25_000

-- Whether no further wait may begin at a moment: the request and its response have taken too long, or
-- too long ago that request began which was answered last. What a client has heard of the target's
-- clock isn't older than that one.
abbrev pub is_time_up : Pace → ℕ → Bool
is_time_up pace now =
    nat_lt (allowed_seconds pace.bytes * 1_000) (now - pace.began)
    || nat_lt 95_000 (now - pace.heard)

-- so many bytes more went or came
abbrev pub further_by : ℕ → Pace → Pace
further_by bytes pace = record pace { bytes = min (pace.bytes + bytes) (2 ^ 64 - 1) }

-- ---- when a request begins

-- a request that begins at a moment, behind another, which was answered or wasn't; the first counts as
-- answered itself
abbrev pub next_pace : Option Pace → Bool → ℕ → Pace
next_pace None answered now = record { began = now; heard = now; bytes = 0 }
next_pace (Some last) true now = record { began = now; heard = last.began; bytes = 0 }
next_pace (Some last) false now = record { began = now; heard = last.heard; bytes = 0 }

-- a moment is the one that a clock shows next, if it tells
abbrev pub ShowsMoment : Option ℕ → ℕ → Type 0
ShowsMoment None now = Unit {0}
ShowsMoment (Some next) now = now ≡ next

-- a request begins at the moment that the clock shows, behind one that was answered or wasn't
pub record StartsAnew (next : Option ℕ) (old : Option Pace) (answered : Bool) (new : Option Pace)
    : Type 0 where
  pub now : ℕ
  pub shown : ShowsMoment next now
  pub anew : new ≡ Some (next_pace old answered now)

-- so many bytes were written of a request that began anew, behind one that was answered
pub record WritesAnew (next : Option ℕ) (old : Option Pace) (bytes : ℕ) (new : Option Pace)
    : Type 0 where
  pub first : Option Pace
  pub starts : StartsAnew next old true first
  pub counts : new ≡ option_map (further_by bytes) first

-- whether a wait may begin at the moment that the clock shows; where no request is on its way any may
abbrev pub TellsTimeUp : Option ℕ → Option Pace → Bool → Type 0
TellsTimeUp next None over = over ≡ false
TellsTimeUp next (Some pace) over = (now : ℕ) × ShowsMoment next now × (over ≡ is_time_up pace now)
