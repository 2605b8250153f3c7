-- What jiff's calendar says of the dates that are counted from 1970.
use Rattle.std.proofs.Common.{◌≡◌, ℕ, zero, suc, ◌+◌, ◌<◌, ◌≤◌, nat_lt, cond, refl, sym, ap, ◌∙◌, subst, arith, inl, inr, pos, ◌+ℤ◌, ◌≤ℤ◌, neg_ℤ}
use borrow.Author.Tests.{ltb-true, ltb-false}
use Rattle.std.proofs.lemmas.Bool.{cases_Bool, cases_lt, cond-true, cond-false}
use Rattle.std.proofs.lemmas.Bool.Decides.{nat_tests}
use Rattle.jiff.specs.Types.{Date as Civil}
use Rattle.jiff.specs.Words.{days_in_month, epoch_day}
use Rattle.jiff.proofs.SpanFacts.{signed_arith}
use Rattle.jiff.proofs.Family.{epoch_day_injective, days_from_civil-day, days_from_civil-next_month, days_from_civil-next_year, days_from_civil-max, epoch_day_same}
use Rattle.jiff.proofs.OnLiterals.{jiff_on_literals}
use Rattle.item_kinds.specs.Calendar.{Date, next_date, date_after}

-- a date of the calendar from 1970 to 9999
pub record IsReal (d : Date) : Type 0 where
  pub from_1970 : 1970 ≤ d.year
  pub to_9999 : d.year ≤ 9999
  pub month_low : 1 ≤ d.month
  pub month_high : d.month ≤ 12
  pub day_low : 1 ≤ d.day
  pub day_high : d.day ≤ days_in_month (pos d.year) d.month

-- the same date as jiff has it
abbrev pub civil : (d : Date) → IsReal d → Civil
civil d h = record {
  year = pos d.year;
  month = d.month;
  day = d.day;
  year_in = (omega (arith, signed_arith, h.to_9999), omega (arith, signed_arith, h.to_9999));
  month_in = (h.month_low, h.month_high);
  day_in = (h.day_low, h.day_high);
}

-- the date is that many days after the beginning of 1970
pub record IsDay (d : Date) (n : ℕ) : Type 0 where
  pub real : IsReal d
  pub count : epoch_day (civil d real) ≡ pos n

first : IsDay (record { year = 1970; month = 1; day = 1 }) 0
unfolding jiff_on_literals
first = record {
  real = record {
    from_1970 = omega arith;
    to_9999 = omega arith;
    month_low = omega arith;
    month_high = omega arith;
    day_low = omega arith;
    day_high = omega arith;
  };
  count = refl;
}

next_pos : (y : ℕ) → pos (y + 1) ≡ pos y +ℤ pos 1
next_pos y = omega (arith, signed_arith)

after_low : (y : ℕ) → neg_ℤ (pos 10000) ≤ℤ pos y
after_low y = omega (arith, signed_arith)

december : (y m d : ℕ) → m ≡ 12 → d ≤ days_in_month (pos y) m → days_in_month (pos y) m ≤ d → d ≡ 31
december y m d e h k =
    let P : ℕ → Type 0 = λ x. (d ≤ days_in_month (pos y) x) × (days_in_month (pos y) x ≤ d) in
    let both : P 12 = subst P e (h, k) in
    omega (arith, both.0, both.1)

pub days_bound : (y m : ℕ) → days_in_month (pos y) m ≤ 31
days_bound y m = grind (arith, nat_tests)

some_days : (y m : ℕ) → 1 ≤ days_in_month (pos y) m
some_days y m = grind (arith, nat_tests)

-- the last day of the calendar
last_day : (d : Date) (n : ℕ) (h : IsDay d n) → d.year ≡ 9999 → d.month ≡ 12 → d.day ≡ 31
    → n ≡ 2_932_896
last_day d n h y m e =
    let last = epoch_day_same (civil d h.real)
    (record {
      year = pos 9999;
      month = 12;
      day = 31;
      year_in = (omega (arith, signed_arith), omega (arith, signed_arith));
      month_in = (omega arith, omega arith);
      day_in = (omega arith, omega arith);
    })
    (ap pos y) m e in
    omega (arith, signed_arith, h.count, last, days_from_civil-max)

-- the same, with the date in parts
step_month : (d : Date) (n : ℕ) → IsDay d n → d.day < days_in_month (pos d.year) d.month
    → IsDay (record { year = d.year; month = d.month; day = d.day + 1 }) (suc n)
step_month d n h below = record {
  real = record {
    from_1970 = h.real.from_1970;
    to_9999 = h.real.to_9999;
    month_low = h.real.month_low;
    month_high = h.real.month_high;
    day_low = omega arith;
    day_high = omega arith;
  };
  count = let e =
      days_from_civil-day (pos d.year) d.month d.day (d.day + 1) h.real.day_low (omega arith) in
      omega (arith, signed_arith, e, h.count);
}

step_year : (d : Date) (n : ℕ) → IsDay d n → d.day ≡ days_in_month (pos d.year) d.month
    → d.month < 12 → IsDay (record { year = d.year; month = d.month + 1; day = 1 }) (suc n)
step_year d n h last more = record {
  real = record {
    from_1970 = h.real.from_1970;
    to_9999 = h.real.to_9999;
    month_low = omega arith;
    month_high = omega arith;
    day_low = omega arith;
    day_high = some_days d.year (d.month + 1);
  };
  count = let e = days_from_civil-next_month (pos d.year) d.month d.day h.real.month_low last in
      omega (arith, signed_arith, e, h.count);
}

new_years_eve : ℕ → Date
new_years_eve year = record { year = year; month = 12; day = 31 }

real_eve : (d : Date) (n : ℕ) → IsDay d n → IsReal (new_years_eve d.year)
unfolding new_years_eve
real_eve d n h =
    record {
      from_1970 = h.real.from_1970;
      to_9999 = h.real.to_9999;
      month_low = omega arith;
      month_high = omega arith;
      day_low = omega arith;
      day_high = omega arith;
    }

step_over : (d : Date) (n : ℕ) → IsDay d n → d.day ≡ 31 → d.month ≡ 12 → d.year < 9999
    → IsDay (record { year = d.year + 1; month = 1; day = 1 }) (suc n)
unfolding new_years_eve
step_over d n h day month early = record {
  real = record {
    from_1970 = omega arith;
    to_9999 = omega arith;
    month_low = omega arith;
    month_high = omega arith;
    day_low = omega arith;
    day_high = some_days (d.year + 1) 1;
  };
  count =
      let e = days_from_civil-next_year (pos d.year) (pos (d.year + 1)) (after_low d.year)
      (next_pos d.year) in
      let last = epoch_day_same (civil d h.real)
      (civil (new_years_eve d.year) (real_eve d n h)) refl month day in
      omega (arith, signed_arith, e, last, h.count);
}

next_day : (d : Date) (n : ℕ) → suc n ≤ 2_932_896 → IsDay d n → IsDay (next_date d) (suc n)
next_day d n fits h =
    let long : ℕ = days_in_month (pos d.year) d.month in
    let P : Date → Type 0 = λ e. IsDay e (suc n) in
    let same_month : Date = record { year = d.year; month = d.month; day = d.day + 1 } in
    let same_year : Date = record { year = d.year; month = d.month + 1; day = 1 } in
    let next_year : Date = record { year = d.year + 1; month = 1; day = 1 } in
    elim (cases_Bool (nat_lt d.day long)) [
      | inl within ↦
          subst P (sym
          (cond-true (nat_lt d.day long) same_month
          (cond (nat_lt d.month 12) same_year next_year) within))
          (step_month d n h (ltb-true d.day long within))
      | inr last ↦
          let at_end = ltb-false d.day long last in
          let skip = cond-false (nat_lt d.day long) same_month
          (cond (nat_lt d.month 12) same_year next_year) last in
          let whole : d.day ≡ long = let below = h.real.day_high in omega (arith, below, at_end) in
          elim (cases_Bool (nat_lt d.month 12)) [
            | inl more ↦
                subst P (sym (skip ∙ cond-true (nat_lt d.month 12) same_year next_year more))
                (step_year d n h whole (ltb-true d.month 12 more))
            | inr over ↦
                let month : d.month ≡ 12 = let le = ltb-false d.month 12 over in
                let ge = h.real.month_high in omega (arith, le, ge) in
                let day : d.day ≡ 31 = december d.year d.month d.day month h.real.day_high at_end in
                let early : d.year < 9999 = elim (cases_lt d.year 9999) [
                  | inl lt ↦ lt
                  | inr ge ↦ let year : d.year ≡ 9999 = let le = h.real.to_9999 in
                      omega (arith, le, ge) in
                      absurd (let e = last_day d n h year month day in omega (arith, e, fits))
                ] in
                subst P (sym (skip ∙ cond-false (nat_lt d.month 12) same_year next_year over))
                (step_over d n h day month early)
          ]
    ]

-- up to the end of 9999 each date that is counted is one of the calendar
pub counted : (n : ℕ) → n ≤ 2_932_896 → IsDay (date_after n) n
unfolding date_after
counted zero fits = first
counted (suc n) fits = next_day (date_after n) n fits (counted n (omega arith))

-- a date of jiff with that day number has the same parts
pub date_of_day : (e : Civil) (n : ℕ) → n ≤ 2_932_896 → epoch_day e ≡ pos n
    → (e.year ≡ pos (date_after n).year) × (e.month ≡ (date_after n).month)
    × (e.day ≡ (date_after n).day)
date_of_day e n fits h = let day = counted n fits in
    epoch_day_injective e (civil (date_after n) day.real) (h ∙ sym day.count)

-- and one with the same parts has that day number
pub day_of_date : (e : Civil) (n : ℕ) → n ≤ 2_932_896 → e.year ≡ pos (date_after n).year
    → e.month ≡ (date_after n).month → e.day ≡ (date_after n).day → epoch_day e ≡ pos n
day_of_date e n fits year month day = let known = counted n fits in
    epoch_day_same e (civil (date_after n) known.real) year month day ∙ known.count
