-- Numbers in decimal digits, as they are written and read.
use Rattle.std.proofs.Common.{◌≡◌, ℕ, zero, suc, ◌<◌, ◌≤◌, ◌^◌, Bool, true, false, cond, inl, inr, List, [], ◌∷◌, length, Some, None, Result, Ok, Err, refl, sym, ap, subst, ◌∙◌, arith}
use Rattle.std.specs.Char.{is_ascii_digit, digit_value}
use Rattle.std.specs.List.{list_all}
use Rattle.std.specs.Str.{IsAscii, IsUtf8}
use Rattle.std.specs.Result.{result_ok}
use Rattle.std.specs.Str.Parse.{AllDigits, IsNumeral, digits_value, ParsesUnsigned}
use Rattle.std.specs.Prelude.{decimal}
use Rattle.jop_base.specs.Decimals.{is_decimal, decimal_in}
use Rattle.std.proofs.lemmas.Fmt.{decimal_is_IsNumeral}
use Rattle.std.proofs.lemmas.Str.{IsUtf8-from_ascii}
use Rattle.std.proofs.lemmas.Str.Parse.{digit_from_value, numerals_by_value, tells_digits, parse_digits}
use Rattle.std.proofs.lemmas.Bool.{cases_lt, and_parts, and_from, cond-true, cond-false, false_from_ne_true, lt-ltb, ltb-true}
use Rattle.std.proofs.lemmas.Option.{same_Some}
use Rattle.std.proofs.lemmas.Bool.Decides.{nat_tests}

digit_yes : (b : ℕ) → is_ascii_digit b ≡ true → digit_value b < 10
digit_yes b h = grind (arith, nat_tests)

digit_test : (b : ℕ) → digit_value b < 10 → is_ascii_digit b ≡ true
digit_test b h = let range = digit_from_value b h in grind (arith, nat_tests)

pub digits_yes : (text : List ℕ) → list_all is_ascii_digit text ≡ true → AllDigits 10 text
digits_yes [] h = tt
digits_yes (b ∷ bs) h = let parts = and_parts (is_ascii_digit b) (list_all is_ascii_digit bs) h in
    (digit_yes b parts.0, digits_yes bs parts.1)

pub digits_test : (text : List ℕ) → AllDigits 10 text → list_all is_ascii_digit text ≡ true
digits_test [] h = refl
digits_test (b ∷ bs) h = and_from (is_ascii_digit b) (list_all is_ascii_digit bs) (digit_test b h.0)
    (digits_test bs h.1)

digits_ascii : (text : List ℕ) → list_all is_ascii_digit text ≡ true → IsAscii text
digits_ascii [] h i = omega arith
digits_ascii (b ∷ bs) h zero = let parts = and_parts (is_ascii_digit b) (list_all is_ascii_digit bs)
    h in let digit = parts.0 in grind (arith, nat_tests)
digits_ascii (b ∷ bs) h (suc i) = digits_ascii bs (and_parts (is_ascii_digit b)
    (list_all is_ascii_digit bs) h).1 i

pub digits_utf8 : (text : List ℕ) → list_all is_ascii_digit text ≡ true → IsUtf8 text
digits_utf8 text h = IsUtf8-from_ascii text (digits_ascii text h)

pub is_decimal-yes : (text : List ℕ) → list_all is_ascii_digit text ≡ true → 0 < length text
    → digits_value 10 text < 2 ^ 64 → is_decimal text ≡ true
is_decimal-yes text digits some small = and_from _ _ (lt-ltb _ _ some)
    (and_from _ _ digits (lt-ltb (digits_value 10 text) (2 ^ 64) small))

is_decimal-parts : (text : List ℕ) → is_decimal text ≡ true → (0 < length text)
    × (digits_value 10 text < 2 ^ 64)
is_decimal-parts text h =
    let p = and_parts _ _ h in
    let q = and_parts _ _ p.1 in (ltb-true _ _ p.0, ltb-true _ _ q.1)

-- what std parses from digits alone is the number that they write
pub decimal_in-parsed : {E : Type 0} (text digits : List ℕ) (r : Result ℕ E) → digits ≡ text
    → list_all is_ascii_digit text ≡ true → ParsesUnsigned 64 10 digits r
    → result_ok r ≡ decimal_in text
decimal_in-parsed {E} text digits (Ok n) same all parsed =
    let here = subst (λ (t : List ℕ). ParsesUnsigned {E = E} 64 10 t (Ok n)) same parsed in
    let is = parse_digits (numerals_by_value (AllDigits 10) tells_digits) {E = E} 64 text
    (Ok n) here (digits_yes text all) in
    ap (λ (k : ℕ). Some k) is.1 ∙ sym (cond-true (is_decimal text) (Some (digits_value 10 text)) None
    (is_decimal-yes text all is.0.0 is.0.1))
decimal_in-parsed {E} text digits (Err e) same all parsed =
    let here = subst (λ (t : List ℕ). ParsesUnsigned {E = E} 64 10 t (Err e)) same parsed in
    let not = parse_digits (numerals_by_value (AllDigits 10) tells_digits) {E = E} 64 text
    (Err e) here (digits_yes text all) in
    sym (cond-false (is_decimal text) (Some (digits_value 10 text)) None
    (false_from_ne_true (is_decimal text) (λ yes. not (is_decimal-parts text yes))))

-- a number that was read is that of a numeral
pub decimal_in-some : (text : List ℕ) (number : ℕ) → decimal_in text ≡ Some number
    → IsNumeral 10 text × (digits_value 10 text ≡ number)
decimal_in-some text number e = go (is_decimal text) refl e where
  go : (b : Bool) → is_decimal text ≡ b → cond b (Some (digits_value 10 text)) None ≡ Some number
      → IsNumeral 10 text × (digits_value 10 text ≡ number)
  go true is e =
      let p = and_parts _ _ is in
      let q = and_parts _ _ p.1 in
      ((ltb-true _ _ p.0, digits_yes text q.0), same_Some _ _ e)
  go false is e = absurd cc

-- a numeral that isn't read is too large
pub decimal_in-none : (text : List ℕ) → decimal_in text ≡ None → IsNumeral 10 text
    → 2 ^ 64 ≤ digits_value 10 text
decimal_in-none text e numeral = elim (cases_lt (digits_value 10 text) (2 ^ 64)) [
  | inl small ↦
      let read = cond-true (is_decimal text) (Some (digits_value 10 text)) None
      (is_decimal-yes text (digits_test text numeral.1) numeral.0 small) in absurd cc
  | inr large ↦ large
]

-- a number that was written is read
pub decimal_digits : (n : ℕ) → n < 2 ^ 64 → list_all is_ascii_digit (decimal n) ≡ true
decimal_digits n small = digits_test (decimal n) (decimal_is_IsNumeral n small).0.1

pub decimal_in-decimal : (n : ℕ) → n < 2 ^ 64 → decimal_in (decimal n) ≡ Some n
decimal_in-decimal n small =
    let numeral = decimal_is_IsNumeral n small in
    cond-true (is_decimal (decimal n)) _ _ (is_decimal-yes (decimal n) (decimal_digits n small)
    numeral.0.0 (omega (arith, numeral.1, small))) ∙ ap (λ (k : ℕ). Some k) numeral.1
