use Rattle.std.proofs.Common.{◌≡◌, ℕ, List, pos, length, take, drop, ◌-◌, ap, arith}
use Rattle.item_kinds.specs.Calendar.{date_after}
use Rattle.item_kinds.proofs.Numerals.{cast8, cast16}
use Rattle.item_kinds.proofs.Named.{date_found, year_below, month_below, day_below}
use Rattle.item_kinds.proofs.stamp.read_date.Goals as goal

pub returns-in_err-year : goal.returns-in_err-year
returns-in_err-year c = λ n fits e.
    let some = c.read_four.ensures (date_after n).year (year_below n fits)
    (ap (λ (xs : List ℕ). take 4 xs) e) in
    let none = c.in_err-year.was in absurd (cc (some, none))

pub returns-in_err-month : goal.returns-in_err-month
returns-in_err-month c = λ n fits e.
    let some = c.read_two.ensures.digits (date_after n).month (month_below n fits)
    (ap (λ (xs : List ℕ). take 2 (drop 5 xs)) e) in
    let none = c.in_err-month.was in absurd (cc (some, none))

pub returns-in_err-day : goal.returns-in_err-day
returns-in_err-day c = λ n fits e.
    let some = c.read_two-2.ensures.digits (date_after n).day (day_below n fits)
    (ap (λ (xs : List ℕ). take (length xs - 8) (drop 8 xs)) e) in
    let none = c.in_err-day.was in absurd (cc (some, none))

pub returns : goal.returns
returns c = λ n fits e.
    let year : c.in_ok-year.year ≡ pos (date_after n).year = let some =
    c.read_four.ensures (date_after n).year (year_below n fits)
    (ap (λ (xs : List ℕ). take 4 xs) e) in let was = c.in_ok-year.was in cc (some, was) in
    let month : c.in_ok-month.month ≡ pos (date_after n).month = let some =
    c.read_two.ensures.digits (date_after n).month (month_below n fits)
    (ap (λ (xs : List ℕ). take 2 (drop 5 xs)) e) in let was = c.in_ok-month.was in
    cc (some, was) in
    let day : c.in_ok-day.day ≡ pos (date_after n).day = let some =
    c.read_two-2.ensures.digits (date_after n).day (day_below n fits)
    (ap (λ (xs : List ℕ). take (length xs - 8) (drop 8 xs)) e) in let was = c.in_ok-day.was in
    cc (some, was) in
    let y = year_below n fits in
    let m = month_below n fits in
    let d = day_below n fits in
    date_found c.new.result c.ok.result n _ _ _ fits (cast16 _ _ year (omega arith))
    (cast8 _ _ month (omega arith))
    (cast8 _ _ day (omega arith)) c.new.ensures.succeeds c.new.ensures.value c.ok.ensures.value
