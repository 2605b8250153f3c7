use Rattle.std.proofs.Common.{◌≡◌, ◌/◌, ◌%◌, ℕ, List, length, take, drop, ◌-◌, ℤ, ◌+ℤ◌, ◌*ℤ◌, pos, Some, ap, arith, slice_index_or, to_z, of_z, w8, w32}
use Rattle.item_kinds.proofs.Numerals.{digits_read}
use Rattle.item_kinds.proofs.digits.read_three.Goals as goal

pub returns-in_err-digit-clause-digits : goal.returns-in_err-digit-clause-digits
returns-in_err-digit-clause-digits c = λ n lt e.
    let some = c.digit.ensures.digit (n / 100) (omega arith)
    (ap (λ (xs : List ℕ). slice_index_or xs 0 0) e) in
    let none = c.in_err-digit.was in absurd (cc (some, none))

pub returns-clause-digits : goal.returns-clause-digits
returns-clause-digits c = λ n lt e.
    let hundreds : c.in_ok-digit.field-0 ≡ n / 100 = let some =
    c.digit.ensures.digit (n / 100) (omega arith)
    (ap (λ (xs : List ℕ). slice_index_or xs 0 0) e) in let was = c.in_ok-digit.was in
    cc (some, was) in
    let rest : c.in_ok-read_two.field-0 ≡ pos (n % 100) = let some =
    c.read_two.ensures.digits (n % 100) (omega arith)
    (ap (λ (xs : List ℕ). take (length xs - 1) (drop 1 xs)) e) in
    let was = c.in_ok-read_two.was in cc (some, was) in
    let number : to_z w32
    (of_z w32 (to_z w32 (of_z w32 (to_z w32 c.in_ok-digit.field-0 *ℤ pos 100)) +ℤ to_z w32
    (of_z w32 (to_z w8 (of_z w8 c.in_ok-read_two.field-0))))) ≡ pos n =
    rw (hundreds, rest) (digits_read n lt) in
    ap (λ (z : ℤ). Some z) number
