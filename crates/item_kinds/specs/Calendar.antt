-- The calendar: which date lies how many days after 1 January 1970. It is the Gregorian one, as ISO 8601 has it.
use Rattle.std.specs.Prelude.{ℕ, zero, suc, ◌+◌, pos, nat_lt, if◌then◌else◌}
use Rattle.jiff.specs.Words.{days_in_month}

-- a year, a month from 1 to 12, and a day from 1
pub record Date : Type 0 where
  pub year : ℕ
  pub month : ℕ
  pub day : ℕ

-- the day after: in the same month, or the first of the next month, or of the next year
abbrev pub next_date : Date → Date
next_date d =
    if nat_lt d.day (days_in_month (pos d.year) d.month)
    then record { year = d.year; month = d.month; day = d.day + 1 }
    else (if nat_lt d.month 12
    then record { year = d.year; month = d.month + 1; day = 1 }
    else record { year = d.year + 1; month = 1; day = 1 })

-- the date that many days after 1 January 1970
unfoldable pub date_after : ℕ → Date
date_after zero = record { year = 1970; month = 1; day = 1 }
date_after (suc n) = next_date (date_after n)
