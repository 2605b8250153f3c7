-- ASCII: each byte is a unit, and what is escaped is ASCII.
use Rattle.std.proofs.Common.{◌≡◌, ℕ, zero, suc, ◌*◌, ◌/◌, ◌%◌, ◌<◌, true, false, List, [], ◌∷◌, ◌++◌, take, drop, nat_lt, refl, sym, ap, ◌∙◌, arith, inl, inr}
use Rattle.std.specs.Char.Escape.{encode_utf16}
use Rattle.std.specs.List.{flat_map, AllByRecursion}
use Rattle.std.specs.Str.{IsAscii}
use Rattle.std.proofs.lemmas.Bool.{cases_lt, cases_Bool}
use Rattle.std.proofs.lemmas.Bool.Decides.{nat_tests}
use Rattle.std.proofs.lemmas.Str.{IsUtf8-from_ascii, chars_from_encodes, encodes-IsAscii, IsAscii-append}
use Rattle.std.proofs.lemmas.Str.Ascii.{IsAscii-nil}
use Rattle.std.proofs.str.Utf16.{one_unit}
use Rattle.jed_text.specs.Hexadecimal.{digit_of}
use Rattle.jed_text.specs.Units.{units_of}
use Rattle.jed_text.specs.Escape.{is_plain, escaped_unit, escaped_units, escaped_pieces}

encoded_same : (xs : List ℕ) → IsAscii xs → flat_map encode_utf16 xs ≡ xs
encoded_same [] h = refl
encoded_same (x ∷ xs) h =
    let low : x < 128 = h 0 in
    let small : x < 0x1_0000 = omega arith in
    rw (one_unit x small) (ap (λ (ys : List ℕ). x ∷ ys) (encoded_same xs (λ i. h (suc i))))

pub units_of-IsAscii : (xs : List ℕ) → IsAscii xs → units_of xs ≡ xs
unfolding units_of
units_of-IsAscii xs h =
    ap (flat_map encode_utf16) (sym (chars_from_encodes xs xs (IsUtf8-from_ascii xs h) (encodes-IsAscii xs h)))
    ∙ encoded_same xs h

-- ---- what is escaped

IsAscii-one : (x : ℕ) → x < 128 → IsAscii (x ∷ [])
IsAscii-one x low zero = low
IsAscii-one x low (suc i) = omega arith

pub IsAscii-cons : (x : ℕ) (xs : List ℕ) → x < 128 → IsAscii xs → IsAscii (x ∷ xs)
IsAscii-cons x xs low h zero = low
IsAscii-cons x xs low h (suc i) = h i

digit_low : (n : ℕ) → digit_of n < 128
digit_low n = elim (cases_lt (n % 16) 10) [
  | inl low ↦ let a : nat_lt (n % 16) 10 ≡ true = grind (arith, nat_tests) in rw a (omega arith)
  | inr high ↦
      let a : nat_lt (n % 16) 10 ≡ false = grind (arith, nat_tests) in
      let less : n % 16 < 16 = omega arith in
      rw a (omega arith)
]

plain_low : (u : ℕ) → is_plain u ≡ true → u < 128
plain_low u plain = elim (cases_lt u 128) [
  | inl low ↦ low
  | inr high ↦ absurd (grind (arith, nat_tests))
]

IsAscii-digits : (a b : ℕ) → IsAscii (digit_of a ∷ digit_of b ∷ [])
IsAscii-digits a b = IsAscii-cons (digit_of a) (digit_of b ∷ []) (digit_low a) (IsAscii-one (digit_of b) (digit_low b))

IsAscii-short : (a b : ℕ) → IsAscii (37 ∷ digit_of a ∷ digit_of b ∷ [])
IsAscii-short a b = IsAscii-cons 37 (digit_of a ∷ digit_of b ∷ []) (omega arith) (IsAscii-digits a b)

IsAscii-long : (a b d e : ℕ) → IsAscii (37 ∷ 117 ∷ digit_of a ∷ digit_of b ∷ digit_of d ∷ digit_of e ∷ [])
IsAscii-long a b d e =
    let four : IsAscii (digit_of a ∷ digit_of b ∷ digit_of d ∷ digit_of e ∷ []) =
    IsAscii-cons (digit_of a) (digit_of b ∷ digit_of d ∷ digit_of e ∷ []) (digit_low a)
    (IsAscii-cons (digit_of b) (digit_of d ∷ digit_of e ∷ []) (digit_low b) (IsAscii-digits d e)) in
    IsAscii-cons 37 (117 ∷ digit_of a ∷ digit_of b ∷ digit_of d ∷ digit_of e ∷ []) (omega arith)
    (IsAscii-cons 117 (digit_of a ∷ digit_of b ∷ digit_of d ∷ digit_of e ∷ []) (omega arith) four)

IsAscii-escaped_unit : (u : ℕ) → IsAscii (escaped_unit u)
IsAscii-escaped_unit u = elim (cases_Bool (is_plain u)) [
  | inl plain ↦ rw plain (IsAscii-one u (plain_low u plain))
  | inr other ↦ elim (cases_lt u 256) [
    | inl low ↦
        let a : nat_lt u 256 ≡ true = grind (arith, nat_tests) in
        rw (other, a) (IsAscii-short (u / 16) u)
    | inr high ↦
        let a : nat_lt u 256 ≡ false = grind (arith, nat_tests) in
        rw (other, a) (IsAscii-long (u / 4096) (u / 256) (u / 16) u)
  ]
]

pub IsAscii-escaped : (units : List ℕ) → IsAscii (escaped_units units)
unfolding escaped_units
IsAscii-escaped [] = IsAscii-nil
IsAscii-escaped (u ∷ units) =
    IsAscii-append (escaped_unit u) (flat_map escaped_unit units) (IsAscii-escaped_unit u) (IsAscii-escaped units)

AllAscii-push : (pieces : List (List ℕ)) (piece : List ℕ) → AllByRecursion IsAscii pieces → IsAscii piece
    → AllByRecursion IsAscii (pieces ++ piece ∷ [])
AllAscii-push [] piece held is = (is, tt)
AllAscii-push (first ∷ pieces) piece held is = (held.0, AllAscii-push pieces piece held.1 is)

pub AllAscii-escaped_pieces : (units : List ℕ) (n : ℕ) → AllByRecursion IsAscii (escaped_pieces units n)
unfolding escaped_pieces
AllAscii-escaped_pieces units zero = tt
AllAscii-escaped_pieces units (suc n) =
    AllAscii-push (escaped_pieces units n) (escaped_units (take 5000 (drop (5000 * n) units)))
    (AllAscii-escaped_pieces units n) (IsAscii-escaped (take 5000 (drop (5000 * n) units)))
