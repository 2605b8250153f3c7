use Rattle.std.proofs.Common.{◌≡◌, ◌*◌, ◌/◌, ◌%◌, ℕ, List, length, pos, take, drop, ap, ◌∙◌, arith}
use Rattle.jiff.specs.Words.{epoch_day, time_nanos}
use Rattle.jiff.specs.Types.{Date as Civil, Time}
use Rattle.item_kinds.specs.Times.{time_text}
use Rattle.item_kinds.proofs.Moments.{nanos_from}
use Rattle.item_kinds.proofs.Named.{not_none, some_holds}
use Rattle.item_kinds.proofs.stamp.named_time.Goals as goal

pub returns-then-text-ne24-clause-named : goal.returns-then-text-ne24-clause-named
unfolding time_text
returns-then-text-ne24-clause-named c =
    λ time fits e. absurd (let long = ap (λ (xs : List ℕ). length xs) e in omega (arith, long))

pub returns-in_err-date-clause-named : goal.returns-in_err-date-clause-named
unfolding time_text
returns-in_err-date-clause-named c = λ time fits e.
    absurd (not_none c.read_date.result _
    (c.read_date.ensures (time / 86_400_000) (omega arith) (ap (λ (xs : List ℕ). take 10 xs) e))
    c.in_err-date.was)

pub returns-in_err-clock-clause-named : goal.returns-in_err-clock-clause-named
unfolding time_text
returns-in_err-clock-clause-named c = λ time fits e.
    absurd (not_none c.read_clock.result _
    (c.read_clock.ensures (time % 86_400_000) (omega arith)
    (ap (λ (xs : List ℕ). take 12 (drop 11 xs)) e)) c.in_err-clock.was)

pub returns-clause-named : goal.returns-clause-named
unfolding time_text
returns-clause-named c = λ time fits e.
    let day : epoch_day c.in_ok-date.date ≡ pos (time / 86_400_000) =
    some_holds c.read_date.result c.in_ok-date.date _
    (c.read_date.ensures (time / 86_400_000) (omega arith) (ap (λ (xs : List ℕ). take 10 xs) e))
    c.in_ok-date.was in
    let clock : time_nanos c.in_ok-clock.clock ≡ time % 86_400_000 * 1_000_000 =
    some_holds c.read_clock.result c.in_ok-clock.clock _
    (c.read_clock.ensures (time % 86_400_000) (omega arith)
    (ap (λ (xs : List ℕ). take 12 (drop 11 xs)) e)) c.in_ok-clock.was in
    let dt = c.to_datetime.result in
    c.time_at.ensures.time time fits
    (nanos_from dt time (ap (λ (d : Civil). epoch_day d) c.to_datetime.ensures.date ∙ day)
    (ap (λ (t : Time). time_nanos t) c.to_datetime.ensures.time ∙ clock))
