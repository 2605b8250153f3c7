-- Nanoseconds on jiff's calendar and clock, and times.
use Rattle.std.proofs.Common.{◌≡◌, ℕ, ◌*◌, ◌/◌, ◌%◌, ◌≤◌, ap, ◌∙◌, arith, ℤ, pos, ◌+ℤ◌, ◌*ℤ◌}
use Rattle.jiff.specs.Types.{DateTime, Time}
use Rattle.jiff.specs.Words.{epoch_day, civil_nanos, time_nanos, IsYmd, IsHms}
use Rattle.jiff.proofs.SpanFacts.{signed_arith}
use Rattle.jiff.proofs.Family.{civil_nanos-parts, time_nanos_bound}
use Rattle.item_kinds.specs.Calendar.{date_after}
use Rattle.item_kinds.specs.Moment.{ShowsDate}
use Rattle.item_kinds.proofs.Days.{date_of_day, day_of_date}

-- the beginning of 1970
pub nanos_zero : (dt : DateTime) → IsYmd (pos 1970) (pos 1) (pos 1) dt.date
    → IsHms (pos 0) (pos 0) (pos 0) (pos 0) dt.time → civil_nanos dt ≡ pos 0
unfolding date_after
nanos_zero dt d t =
    let month : dt.date.month ≡ 1 = omega (arith, signed_arith, d.1) in
    let day : dt.date.day ≡ 1 = omega (arith, signed_arith, d.2) in
    let first = day_of_date dt.date 0 (omega arith) d.0 month day in
    let whole = civil_nanos-parts dt in
    let clock : time_nanos dt.time ≡ 0 = omega (arith, signed_arith, t.0, t.1, t.2, t.3) in
    omega (arith, signed_arith, first, whole, clock)

-- the day, and the nanoseconds of the day
day_part : (dt : DateTime) (t : ℕ) → civil_nanos dt ≡ pos (t * 1_000_000)
    → epoch_day dt.date ≡ pos (t / 86_400_000)
day_part dt t h = omega (arith, signed_arith, h, civil_nanos-parts dt, time_nanos_bound dt.time)

clock_part : (dt : DateTime) (t : ℕ) → civil_nanos dt ≡ pos (t * 1_000_000)
    → time_nanos dt.time ≡ t % 86_400_000 * 1_000_000
clock_part dt t h = omega (arith, signed_arith, h, civil_nanos-parts dt, time_nanos_bound dt.time)

hour_part : (c : Time) (r : ℕ) → time_nanos c ≡ r * 1_000_000 → c.hour ≡ r / 3_600_000
hour_part c r h = omega (arith, h)

minute_part : (c : Time) (r : ℕ) → time_nanos c ≡ r * 1_000_000 → c.minute ≡ r / 60_000 % 60
minute_part c r h = omega (arith, h)

second_part : (c : Time) (r : ℕ) → time_nanos c ≡ r * 1_000_000 → c.second ≡ r / 1_000 % 60
second_part c r h = omega (arith, h)

milli_part : (c : Time) (r : ℕ) → time_nanos c ≡ r * 1_000_000
    → c.subsec_nanosecond ≡ r % 1_000 * 1_000_000
milli_part c r h = omega (arith, h)

pub shows : (dt : DateTime) (t : ℕ) → t ≤ 253_402_300_799_999 → civil_nanos dt ≡ pos (t * 1_000_000)
    → ShowsDate dt t
shows dt t fits h =
    let days : t / 86_400_000 ≤ 2_932_896 = omega (arith, fits) in
    let date = date_of_day dt.date (t / 86_400_000) days (day_part dt t h) in
    let r : ℕ = t % 86_400_000 in
    let clock : time_nanos dt.time ≡ r * 1_000_000 = clock_part dt t h in
    record {
      year = date.0;
      month = date.1;
      day = date.2;
      hour = hour_part dt.time r clock;
      minute = minute_part dt.time r clock;
      second = second_part dt.time r clock;
      milli = milli_part dt.time r clock;
    }

-- so many milliseconds after the beginning, in nanoseconds
product : (t : ℕ) → pos 0 +ℤ (pos t *ℤ pos 1_000_000) ≡ pos (t * 1_000_000)
product t = omega (arith, signed_arith)

pub nanos_after : (begin nanos moment millis : ℤ) (t : ℕ) → begin ≡ pos 0 → millis ≡ pos t
    → nanos ≡ millis *ℤ pos 1_000_000 → moment ≡ begin +ℤ nanos → moment ≡ pos (t * 1_000_000)
nanos_after begin nanos moment millis t a b c d = d ∙ ap (λ (z : ℤ). z +ℤ nanos) a
    ∙ ap (λ (z : ℤ). pos 0 +ℤ z) (c ∙ ap (λ (z : ℤ). z *ℤ pos 1_000_000) b) ∙ product t

-- the day and the nanoseconds of the day, together
pub nanos_from : (dt : DateTime) (t : ℕ) → epoch_day dt.date ≡ pos (t / 86_400_000)
    → time_nanos dt.time ≡ t % 86_400_000 * 1_000_000 → civil_nanos dt ≡ pos (t * 1_000_000)
nanos_from dt t day clock = omega (arith, signed_arith, day, clock, civil_nanos-parts dt)
