-- The date and the time of day that parts name.
use Rattle.std.proofs.Common.{◌≡◌, ℕ, ◌*◌, ◌/◌, ◌%◌, ◌<◌, ◌≤◌, Option, Some, None, Result, Ok, Err, sym, ◌∙◌, subst, arith, ℤ, pos, ◌↔◌}
use Rattle.std.proofs.lemmas.Bool.{false≢true}
use Rattle.std.specs.Prelude.{IsOk, IfOk, IfNone, IsSomeAnd}
use Rattle.std.specs.Result.{result_ok}
use Rattle.jiff.specs.Types.{Date as Civil, Time}
use Rattle.jiff.specs.Words.{epoch_day, time_nanos, IsDate, IsYmd, IsTime, IsHms}
use Rattle.jiff.proofs.SpanFacts.{signed_arith}
use Rattle.item_kinds.specs.Calendar.{date_after}
use Rattle.item_kinds.proofs.Days.{counted, day_of_date, days_bound}

is_date : (n : ℕ) → n ≤ 2_932_896
    → IsDate (pos (date_after n).year) (pos (date_after n).month) (pos (date_after n).day)
is_date n fits =
    let real = (counted n fits).real in
    let low : 1970 ≤ (date_after n).year = real.from_1970 in
    let high : (date_after n).year ≤ 9999 = real.to_9999 in (
      (omega (arith, signed_arith, low, high), omega (arith, signed_arith, low, high)),
      (omega (arith, signed_arith, real.month_low), omega (arith, signed_arith, real.month_high)),
      (omega (arith, signed_arith, real.day_low), omega (arith, signed_arith, real.day_high)),
    )

pub date_found : {E : Type 0} (r : Result Civil E) (o : Option Civil) (n : ℕ) (y m d : ℤ)
    → n ≤ 2_932_896 → y ≡ pos (date_after n).year → m ≡ pos (date_after n).month
    → d ≡ pos (date_after n).day
    → (IsOk r ↔ IsDate y m d) → IfOk r (IsYmd y m d) → o ≡ result_ok r
    → IsSomeAnd o (λ date. epoch_day date ≡ pos n)
date_found (Ok date) o n y m d fits ye me de can value e =
    let P : Option Civil → Type 0 = λ o. IsSomeAnd o (λ date. epoch_day date ≡ pos n) in
    let month : date.month ≡ (date_after n).month = omega (arith, signed_arith, value.1, me) in
    let day : date.day ≡ (date_after n).day = omega (arith, signed_arith, value.2, de) in
    subst P (sym e) (day_of_date date n fits (value.0 ∙ ye) month day)
date_found (Err x) o n y m d fits ye me de can value e =
    absurd (false≢true (can.1 (rw (ye, me, de) (is_date n fits))))

pub clock_found : {E : Type 0} (r : Result Time E) (o : Option Time) (millis : ℕ) (h m s f : ℤ)
    → millis < 86_400_000 → h ≡ pos (millis / 3_600_000) → m ≡ pos (millis / 60_000 % 60)
    → s ≡ pos (millis / 1_000 % 60) → f ≡ pos (millis % 1_000 * 1_000_000)
    → (IsOk r ↔ IsTime h m s f) → IfOk r (IsHms h m s f) → o ≡ result_ok r
    → IsSomeAnd o (λ clock. time_nanos clock ≡ millis * 1_000_000)
clock_found (Ok clock) o millis h m s f fits he me se fe can value e =
    let P : Option Time
    → Type 0 = λ o. IsSomeAnd o (λ clock. time_nanos clock ≡ millis * 1_000_000) in
    let hour : clock.hour ≡ millis / 3_600_000 = omega (arith, signed_arith, value.0, he) in
    let minute : clock.minute ≡ millis / 60_000 % 60 = omega (arith, signed_arith, value.1, me) in
    let second : clock.second ≡ millis / 1_000 % 60 = omega (arith, signed_arith, value.2, se) in
    let part : clock.subsec_nanosecond ≡ millis % 1_000 * 1_000_000 =
    omega (arith, signed_arith, value.3, fe) in
    subst P (sym e) (omega (arith, hour, minute, second, part, fits))
clock_found (Err x) o millis h m s f fits he me se fe can value e =
    absurd (false≢true
    (can.1 (
      (omega (arith, signed_arith, he, fits), omega (arith, signed_arith, he, fits)),
      (omega (arith, signed_arith, me), omega (arith, signed_arith, me)),
      (omega (arith, signed_arith, se), omega (arith, signed_arith, se)),
      (omega (arith, signed_arith, fe), omega (arith, signed_arith, fe)),
    )))

-- what is some isn't none
pub not_none : {X : Type 0} (o : Option X) (P : X → Type 0) → IsSomeAnd o P → o ≡ None → ⊥
not_none o P h e = let Q : Option _ → Type 0 = λ p. IsSomeAnd p P in subst Q e h

pub some_holds : {X : Type 0} (o : Option X) (x : X) (P : X → Type 0) → IsSomeAnd o P → o ≡ Some x
    → P x
some_holds o x P h e = let Q : Option _ → Type 0 = λ p. IsSomeAnd p P in subst Q e h

pub none_weaker : {X : Type 0} (o : Option X) (P Q : Type 0) → (P → Q) → IfNone o P → IfNone o Q
none_weaker None P Q f h = f h
none_weaker (Some x) P Q f h = tt

-- the bounds of its parts
pub year_below : (n : ℕ) → n ≤ 2_932_896 → (date_after n).year < 10_000
year_below n fits = let high = (counted n fits).real.to_9999 in omega (arith, high)

pub month_below : (n : ℕ) → n ≤ 2_932_896 → (date_after n).month < 100
month_below n fits = let high = (counted n fits).real.month_high in omega (arith, high)

pub day_below : (n : ℕ) → n ≤ 2_932_896 → (date_after n).day < 100
day_below n fits = let high = (counted n fits).real.day_high in
    let long = days_bound (date_after n).year (date_after n).month in omega (arith, high, long)
