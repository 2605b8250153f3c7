use Rattle.std.proofs.Common.{◌≡◌, ◌-◌, ◌/◌, ◌%◌, ℕ, List, pos, ℤ, ◌*ℤ◌, to_z, of_z, w32, length, take, drop, ap, ◌∙◌, arith}
use Rattle.item_kinds.proofs.Numerals.{part_read, cast8, cast32}
use Rattle.item_kinds.proofs.Named.{clock_found}
use Rattle.item_kinds.proofs.stamp.read_clock.Goals as goal

pub returns-in_err-hour : goal.returns-in_err-hour
returns-in_err-hour c = λ millis fits e.
    let some = c.read_two.ensures.digits (millis / 3_600_000) (omega arith)
    (ap (λ (xs : List ℕ). take 2 xs) e) in
    let none = c.in_err-hour.was in absurd (cc (some, none))

pub returns-in_err-minute : goal.returns-in_err-minute
returns-in_err-minute c = λ millis fits e.
    let some = c.read_two-2.ensures.digits (millis / 60_000 % 60) (omega arith)
    (ap (λ (xs : List ℕ). take 2 (drop 3 xs)) e) in
    let none = c.in_err-minute.was in absurd (cc (some, none))

pub returns-in_err-second : goal.returns-in_err-second
returns-in_err-second c = λ millis fits e.
    let some = c.read_two-3.ensures.digits (millis / 1_000 % 60) (omega arith)
    (ap (λ (xs : List ℕ). take 2 (drop 6 xs)) e) in
    let none = c.in_err-second.was in absurd (cc (some, none))

pub returns-in_err-milli : goal.returns-in_err-milli
returns-in_err-milli c = λ millis fits e.
    let some = c.read_three.ensures.digits (millis % 1_000) (omega arith)
    (ap (λ (xs : List ℕ). take (length xs - 9) (drop 9 xs)) e) in
    let none = c.in_err-milli.was in absurd (cc (some, none))

pub returns : goal.returns
returns c = λ millis fits e.
    let hour : c.in_ok-hour.hour ≡ pos (millis / 3_600_000) = let some =
    c.read_two.ensures.digits (millis / 3_600_000) (omega arith)
    (ap (λ (xs : List ℕ). take 2 xs) e) in let was = c.in_ok-hour.was in cc (some, was) in
    let minute : c.in_ok-minute.minute ≡ pos (millis / 60_000 % 60) = let some =
    c.read_two-2.ensures.digits (millis / 60_000 % 60) (omega arith)
    (ap (λ (xs : List ℕ). take 2 (drop 3 xs)) e) in let was = c.in_ok-minute.was in
    cc (some, was) in
    let second : c.in_ok-second.second ≡ pos (millis / 1_000 % 60) = let some =
    c.read_two-3.ensures.digits (millis / 1_000 % 60) (omega arith)
    (ap (λ (xs : List ℕ). take 2 (drop 6 xs)) e) in let was = c.in_ok-second.was in
    cc (some, was) in
    let milli : c.in_ok-milli.milli ≡ pos (millis % 1_000) = let some =
    c.read_three.ensures.digits (millis % 1_000) (omega arith)
    (ap (λ (xs : List ℕ). take (length xs - 9) (drop 9 xs)) e) in let was = c.in_ok-milli.was in
    cc (some, was) in
    let part = ap (λ (z : ℤ). to_z w32 (of_z w32 (z *ℤ pos 1_000_000)))
    (cast32 _ _ milli (omega arith)) ∙ part_read (millis % 1_000) (omega arith) in
    clock_found c.new.result c.ok.result millis _ _ _ _ fits (cast8 _ _ hour (omega arith))
    (cast8 _ _ minute (omega arith))
    (cast8 _ _ second (omega arith))
    part c.new.ensures.succeeds c.new.ensures.value c.ok.ensures.value
