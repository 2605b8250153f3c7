-- What a calendar and a clock show at a time.
use Rattle.std.specs.Prelude.{◌≡◌, ℕ, ◌*◌, ◌/◌, ◌%◌, pos}
use Rattle.jiff.specs.Types.{DateTime}
use Rattle.item_kinds.specs.Calendar.{date_after}

-- they show the date of that day, and how long the day has lasted
pub record ShowsDate (moment : DateTime) (time : ℕ) : Type 0 where
  pub year : moment.date.year ≡ pos (date_after (time / 86_400_000)).year
  pub month : moment.date.month ≡ (date_after (time / 86_400_000)).month
  pub day : moment.date.day ≡ (date_after (time / 86_400_000)).day
  pub hour : moment.time.hour ≡ time % 86_400_000 / 3_600_000
  pub minute : moment.time.minute ≡ time % 86_400_000 / 60_000 % 60
  pub second : moment.time.second ≡ time % 86_400_000 / 1_000 % 60
  pub milli : moment.time.subsec_nanosecond ≡ time % 86_400_000 % 1_000 * 1_000_000
