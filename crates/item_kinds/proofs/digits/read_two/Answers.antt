use Rattle.std.proofs.Common.{◌≡◌, ◌+◌, ◌*◌, ◌/◌, ◌%◌, ℕ, List, ℤ, pos, Some, ap, arith, slice_index_or, to_z, w8}
use Rattle.std.proofs.lemmas.Int.{ints}
use Rattle.item_kinds.proofs.digits.read_two.Goals as goal

pub returns-in_err-digit-clause-digits : goal.returns-in_err-digit-clause-digits
returns-in_err-digit-clause-digits c = λ n lt e.
    let some = c.digit.ensures.digit (n / 10) (omega arith)
    (ap (λ (xs : List ℕ). slice_index_or xs 0 0) e) in
    let none = c.in_err-digit.was in absurd (cc (some, none))

pub returns-in_err-digit-2-clause-digits : goal.returns-in_err-digit-2-clause-digits
returns-in_err-digit-2-clause-digits c = λ n lt e.
    let some = c.digit-2.ensures.digit (n % 10) (omega arith)
    (ap (λ (xs : List ℕ). slice_index_or xs 1 0) e) in
    let none = c.in_err-digit-2.was in absurd (cc (some, none))

pub returns-clause-digits : goal.returns-clause-digits
returns-clause-digits c = λ n lt e.
    let tens : c.in_ok-digit.field-0 ≡ n / 10 = let some =
    c.digit.ensures.digit (n / 10) (omega arith)
    (ap (λ (xs : List ℕ). slice_index_or xs 0 0) e) in let was = c.in_ok-digit.was in
    cc (some, was) in
    let ones : c.in_ok-digit-2.field-0 ≡ n % 10 = let some =
    c.digit-2.ensures.digit (n % 10) (omega arith)
    (ap (λ (xs : List ℕ). slice_index_or xs 1 0) e) in let was = c.in_ok-digit-2.was in
    cc (some, was) in
    let number : to_z w8 (c.in_ok-digit.field-0 * 10 + c.in_ok-digit-2.field-0) ≡ pos n =
    omega (arith, ints, tens, ones) in
    ap (λ (z : ℤ). Some z) number
