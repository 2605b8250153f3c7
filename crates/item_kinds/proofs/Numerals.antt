-- Decimal digits.
use Rattle.std.proofs.Common.{◌≡◌, ℕ, ◌*◌, ◌/◌, ◌%◌, ℤ, ◌+ℤ◌, ◌*ℤ◌, pos, to_z, of_z, w8, w16, w32, ◌≤◌, ◌<◌, true, List, length, Option, Some, None, subst, ap, sym, ◌∙◌, arith}
use Rattle.std.specs.Prelude.{◌&&◌, ◌^◌, IfSome, IfNone, nat_le}
use Rattle.std.specs.Char.{is_ascii_digit}
use Rattle.std.specs.List.{list_all}
use Rattle.std.specs.Str.Parse.{AllDigits, IsNumeral, digits_value}
use Rattle.std.proofs.lemmas.Str.Parse.{digits_value_short, numerals_by_value, tells_digits}
use Rattle.std.proofs.lemmas.Int.{ints}
use Rattle.jop_base.proofs.DecimalLaws.{decimal_in-none, decimal_in-some, digits_test, digits_yes}
use Rattle.jop_base.specs.Decimals.{decimal_in}
use Rattle.item_text.specs.Valid.{is_type_value}
use Rattle.item_kinds.specs.Kinds.{type_number}
use Rattle.std.proofs.lemmas.Bool.{and_parts, and_from, cond-true, cond-false, false_from_ne_true}
use Rattle.std.proofs.lemmas.Bool.Decides.{nat_tests}

-- what was read in decimal is the number of a numeral
pub read_some : (text : List ℕ) (r : Option ℕ) → r ≡ decimal_in text
    → IfSome r (λ number. IsNumeral 10 text × (digits_value 10 text ≡ number))
read_some text None e = tt
read_some text (Some number) e = decimal_in-some text number (sym e)

pub read_none : (text : List ℕ) (r : Option ℕ) → r ≡ decimal_in text
    → IfNone r (IsNumeral 10 text → 2 ^ 64 ≤ digits_value 10 text)
read_none text None e = decimal_in-none text (sym e)
read_none text (Some number) e = tt

-- a digit and two more as one number, through the types that it is read in
pub digits_read : (n : ℕ) → n < 1_000
    → to_z w32 (of_z w32
    (to_z w32 (of_z w32 (to_z w32 (n / 100) *ℤ pos 100)) +ℤ to_z w32
    (of_z w32 (to_z w8 (of_z w8 (pos (n % 100))))))) ≡ pos n
digits_read n lt =
    let a : to_z w32 (n / 100) ≡ pos (n / 100) = omega (arith, ints) in
    let b : to_z w8 (of_z w8 (pos (n % 100))) ≡ pos (n % 100) = omega (arith, ints) in
    let d : to_z w32 (of_z w32 (pos (n / 100) *ℤ pos 100)) ≡ pos (n / 100 * 100) =
    omega (arith, ints) in
    let e : to_z w32 (of_z w32 (pos (n % 100))) ≡ pos (n % 100) = omega (arith, ints) in
    let f : to_z w32 (of_z w32 (pos (n / 100 * 100) +ℤ pos (n % 100))) ≡ pos n =
    omega (arith, ints) in
    rw (a, b, d, e) f

-- milliseconds as nanoseconds, through the type that jiff takes
pub part_read : (n : ℕ) → n < 1_000
    → to_z w32 (of_z w32 (pos n *ℤ pos 1_000_000)) ≡ pos (n * 1_000_000)
part_read n lt = omega (arith, ints)

-- a number that fits stays when it is cast to its own type
pub cast8 : (z : ℤ) (n : ℕ) → z ≡ pos n → n < 128 → to_z w8 (of_z w8 z) ≡ pos n
cast8 z n e fits = omega (arith, ints)

pub cast16 : (z : ℤ) (n : ℕ) → z ≡ pos n → n < 32_768 → to_z w16 (of_z w16 z) ≡ pos n
cast16 z n e fits = omega (arith, ints)

pub cast32 : (z : ℤ) (n : ℕ) → z ≡ pos n → n < 1_000_000_000 → to_z w32 (of_z w32 z) ≡ pos n
cast32 z n e fits = omega (arith, ints)

-- ---- a type of one to three digits

digits_kind : (value : List ℕ) → length value ≤ 3 → IsNumeral 10 value → is_type_value value ≡ true
unfolding is_type_value
digits_kind value short numeral =
    let tested = digits_test value numeral.1 in
    let some = numeral.0 in
    and_from (nat_le 1 (length value) && nat_le (length value) 3) (list_all is_ascii_digit value)
    (and_from (nat_le 1 (length value)) (nat_le (length value) 3) (grind (arith, nat_tests))
    (grind (arith, nat_tests))) tested

kind_digits : (value : List ℕ) → is_type_value value ≡ true → IsNumeral 10 value
unfolding is_type_value
kind_digits value h =
    let parts = and_parts (nat_le 1 (length value) && nat_le (length value) 3)
    (list_all is_ascii_digit value) h in
    let low = (and_parts (nat_le 1 (length value)) (nat_le (length value) 3) parts.0).0 in
    (grind (arith, nat_tests), digits_yes value parts.1)

short_value : (value : List ℕ) → length value ≤ 3 → IsNumeral 10 value
    → digits_value 10 value < 1_000
short_value value short numeral =
    digits_value_short (numerals_by_value (AllDigits 10) tells_digits) value 3 numeral.1 short

some_is : (r : Option ℕ) (n : ℕ) (P : ℕ → Type 0) → IfSome r P → r ≡ Some n → P n
some_is r n P h e = let Q : Option ℕ → Type 0 = λ o. IfSome o P in subst Q e h

none_is : (r : Option ℕ) (P : Type 0) → IfNone r P → r ≡ None → P
none_is r P h e = let Q : Option ℕ → Type 0 = λ o. IfNone o P in subst Q e h

pub short_number : (value : List ℕ) (r : Option ℕ) (n : ℕ) → length value ≤ 3
    → IfSome r (λ number. IsNumeral 10 value × (digits_value 10 value ≡ number)) → r ≡ Some n
    → n < 1_000
short_number value r n short h e = let is = some_is r n _ h e in
    omega (arith, short_value value short is.0, is.1)

pub type_some : (value : List ℕ) (r : Option ℕ) (n : ℕ) → length value ≤ 3
    → IfSome r (λ number. IsNumeral 10 value × (digits_value 10 value ≡ number)) → r ≡ Some n
    → type_number value ≡ Some n
type_some value r n short h e =
    let is = some_is r n _ h e in
    cond-true (is_type_value value) (Some (digits_value 10 value)) None
    (digits_kind value short is.0) ∙ ap (λ (k : ℕ). Some k) is.1

pub type_none : (value : List ℕ) (r : Option ℕ) → length value ≤ 3
    → IfNone r (IsNumeral 10 value → 2 ^ 64 ≤ digits_value 10 value) → r ≡ None
    → type_number value ≡ None
type_none value r short h e =
    let too_large = none_is r _ h e in
    cond-false (is_type_value value) (Some (digits_value 10 value)) None
    (false_from_ne_true (is_type_value value) (λ yes.
    let numeral = kind_digits value yes in
    let large = too_large numeral in
    let small = short_value value short numeral in omega (arith, large, small)))
