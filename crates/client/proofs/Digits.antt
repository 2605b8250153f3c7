-- The hexadecimal digits of 16 bytes are an id.
use Rattle.std.proofs.Common.{◌≡◌, refl, arith, ℕ, suc, zero, ◌/◌, ◌%◌, ◌<◌, List, [], ◌∷◌, length, Bool, true, ◌&&◌, ◌≤◌, inl, inr}
use Rattle.std.proofs.Math.Nat.{eq-or-lt_of_le}
use Rattle.std.proofs.lemmas.Bool.{and_parts}
use Rattle.std.specs.Prelude.{slice_index}
use Rattle.std.proofs.lemmas.List.Elements.{All-cons, All-nil}
use Rattle.hex.proofs.HexLemmas.{length-encode_with}
use Rattle.hex.specs.Hex.{IsBytes, encode_lower, encode_with, lower_digits}
use Rattle.jop_base.specs.Id.{AreDigits, IsIdText, is_digit}

-- whether each number below n stands for a digit
unfoldable digits_below : ℕ → Bool
digits_below zero = true
digits_below (suc n) = is_digit (slice_index lower_digits n) && digits_below n

digit_below : (m n : ℕ) → digits_below m ≡ true → n < m →
    is_digit (slice_index lower_digits n) ≡ true
unfolding digits_below
digit_below zero n h lt = absurd (omega (arith, lt))
digit_below (suc m) n h lt =
    let both = and_parts (is_digit (slice_index lower_digits m)) (digits_below m) h in
    let within : n ≤ m = omega (arith, lt) in
    elim (eq-or-lt_of_le within) [
      | inl same ↦ rw same both.0
      | inr less ↦ digit_below m n both.1 less
    ]

digit_at : (n : ℕ) → n < 16 → is_digit (slice_index lower_digits n) ≡ true
unfolding digits_below
digit_at n lt = digit_below 16 n refl lt

abbrev IsDigit : ℕ → Type 0
IsDigit d = is_digit d ≡ true

digits_of : (xs : List ℕ) → IsBytes xs → AreDigits (encode_lower xs)
unfolding encode_with
digits_of [] h = All-nil IsDigit
digits_of (b ∷ xs) h =
    let high = slice_index lower_digits (b / 16) in
    let low = slice_index lower_digits (b % 16) in
    All-cons IsDigit high (low ∷ encode_lower xs) (digit_at (b / 16) (omega (arith, h 0)))
    (All-cons IsDigit low (encode_lower xs) (digit_at (b % 16) (omega (arith, h 0)))
    (digits_of xs (λ i. h (suc i))))

-- the digits of 16 bytes are an id
pub id_text : (xs : List ℕ) → length xs ≡ 16 → IsBytes xs → IsIdText (encode_lower xs)
id_text xs long h =
    let e = length-encode_with lower_digits xs in
    record { long = omega (arith, e, long); digits = digits_of xs h }
