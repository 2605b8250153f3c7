-- What is asked of every clock, and a clock in memory.
use Rattle.std.specs.Prelude.{ℕ, ◌≡◌, ◌+◌, min, [], Option, Some, None, Result, Ok, Err}
use Rattle.jop_outside.specs.declared.failed.Failed.{Failed}
use Rattle.jop_outside.specs.Plan.{Calls}
use Rattle.jop_base.specs.Times.{last_time}

-- a clock at a moment: what it shows next, if it tells, and how often it has failed
pub record ClockNow : Type 0 where
  pub next : Option ℕ
  pub faults : ℕ

-- the time that a clock shows is the one that it told; a clock that tells goes on telling, and a call that failed
-- changes nothing
abbrev pub Shows : Option ℕ → Result ℕ Failed → Option ℕ → Type 0
Shows None result after = after ≡ None
Shows (Some next) (Ok now) after = (now ≡ next) × ((later : ℕ) × (after ≡ Some later))
Shows (Some next) (Err e) after = after ≡ Some next

-- ---- in memory

-- what a clock in memory shows next, how much later it shows each time, how often it has failed, and its plan
pub record Ticks : Type 0 where
  pub next : ℕ
  pub step : ℕ
  pub faults : ℕ
  pub plan : Calls

-- a clock that shows this moment first, and each time a step more
abbrev pub ticks_from : ℕ → ℕ → Ticks
ticks_from start step = record {
  next = min start last_time;
  step = step;
  faults = 0;
  plan = record { made = 0; failing = [] };
}

-- the moment after one that was shown, up to the end of the year 9999
abbrev pub later_by : ℕ → ℕ → ℕ
later_by step now = min (now + step) last_time
