-- Base64: it is read back, it is ASCII, and it stands in JSON as it is.
use Rattle.std.proofs.Common.{◌≡◌, ℕ, zero, suc, ◌+◌, ◌*◌, ◌/◌, ◌%◌, ◌<◌, Bool, true, ◌&&◌, bytes_eq, List, [], ◌∷◌, ◌++◌, length, slice_index, replicate, Some, refl, ap, ◌∙◌, arith, inl, inr}
use Rattle.std.specs.List.{flat_map}
use Rattle.std.specs.Option.{option_or}
use Rattle.std.specs.Result.{result_ok}
use Rattle.std.specs.Str.{IsAscii}
use Rattle.std.proofs.lemmas.Bool.{cases_lt, and_parts}
use Rattle.std.proofs.lemmas.Slice.Eq.{bytes_eq-Decides}
use Rattle.base64.specs.Engines.{standard, standard_no_pad}
use Rattle.base64.specs.GeneralPurpose.{IsBytes, decode_of, encode_of, engine_symbols}
use Rattle.base64.specs.Rfc4648.{encode_symbols, padding_len}
use Rattle.base64.proofs.EngineFacts.{decode_of-encode_of, IsAscii-encode_of}
use Rattle.json.specs.Print.{escape_byte}
use Rattle.jed_format.specs.Base64.{decoded, encoded}

abbrev pub symbols : List ℕ
symbols = engine_symbols standard

pub decoded-encoded : (bytes : List ℕ) → IsBytes bytes → decoded (encoded bytes) ≡ Some bytes
unfolding decoded encoded
decoded-encoded bytes is =
    ap (λ r. option_or (result_ok r) (result_ok (decode_of standard_no_pad (encode_of standard bytes))))
    (decode_of-encode_of standard bytes refl is)

pub IsAscii-encoded : (bytes : List ℕ) → IsAscii (encoded bytes)
unfolding encoded
IsAscii-encoded bytes = IsAscii-encode_of standard bytes

-- ---- equal texts

bytes_eq_is : (xs ys : List ℕ) → bytes_eq xs ys ≡ true → xs ≡ ys
bytes_eq_is xs ys e = (bytes_eq-Decides xs ys).0 e

-- ---- the symbols need no escape in JSON

-- so of the symbols of the first so many numbers
abbrev stand : ℕ → Bool
stand zero = true
stand (suc n) =
    bytes_eq (escape_byte (slice_index symbols n)) (slice_index symbols n ∷ [])
    && stand n

all_stand : stand 64 ≡ true
unfolding escape_byte
all_stand = refl

stands_at : (n v : ℕ) → stand n ≡ true → v < n
    → escape_byte (slice_index symbols v) ≡ slice_index symbols v ∷ []
stands_at zero v h lt = absurd (omega arith)
stands_at (suc n) v h lt =
    let parts = and_parts (bytes_eq (escape_byte (slice_index symbols n)) (slice_index symbols n ∷ [])) (stand n) h in
    elim (cases_lt v n) [
      | inl below ↦ stands_at n v parts.1 below
      | inr above ↦
          let same : v ≡ n = omega arith in
          rw same (bytes_eq_is (escape_byte (slice_index symbols n)) (slice_index symbols n ∷ []) parts.0)
    ]

stands : (v : ℕ) → v < 64 → escape_byte (slice_index symbols v) ≡ slice_index symbols v ∷ []
stands v lt = stands_at 64 v all_stand lt

padding_stands : (n : ℕ) → flat_map escape_byte (replicate n 61) ≡ replicate n 61
unfolding escape_byte
padding_stands zero = refl
padding_stands (suc n) = ap (λ (xs : List ℕ). 61 ∷ xs) (padding_stands n)

symbols_stand : (m rest : List ℕ) → IsBytes m
    → flat_map escape_byte (encode_symbols symbols m ++ rest)
    ≡ encode_symbols symbols m ++ flat_map escape_byte rest
unfolding encode_symbols
symbols_stand [] rest is = refl
symbols_stand (a ∷ []) rest is =
    let la : a < 256 = is 0 in
    rw (stands (a / 4) (omega arith), stands (a % 4 * 16) (omega arith)) refl
symbols_stand (a ∷ b ∷ []) rest is =
    let la : a < 256 = is 0 in
    let lb : b < 256 = is 1 in
    rw (stands (a / 4) (omega arith), stands (a % 4 * 16 + b / 16) (omega arith), stands (b % 16 * 4) (omega arith)) refl
symbols_stand (a ∷ b ∷ c ∷ m) rest is =
    let la : a < 256 = is 0 in
    let lb : b < 256 = is 1 in
    let lc : c < 256 = is 2 in
    let more : IsBytes m = λ i. is (suc (suc (suc i))) in
    rw (
      stands (a / 4) (omega arith),
      stands (a % 4 * 16 + b / 16) (omega arith),
      stands (b % 16 * 4 + c / 64) (omega arith),
      stands (c % 64) (omega arith),
      symbols_stand m rest more,
    ) refl

pub escape-encoded : (bytes : List ℕ) → IsBytes bytes → flat_map escape_byte (encoded bytes) ≡ encoded bytes
unfolding encoded
escape-encoded bytes is =
    symbols_stand bytes (replicate (padding_len (length bytes)) 61) is
    ∙ ap (λ (xs : List ℕ). encode_symbols symbols bytes ++ xs) (padding_stands (padding_len (length bytes)))
