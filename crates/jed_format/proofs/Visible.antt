-- What is written is letters of ASCII that can be seen.
use Rattle.std.proofs.Common.{◌≡◌, ℕ, zero, suc, ◌+◌, ◌*◌, ◌/◌, ◌%◌, ◌<◌, ◌^◌, Bool, true, false, ◌&&◌, nat_le, nat_lt, List, [], ◌∷◌, ◌++◌, length, slice_index, get_or, replicate, codes, decimal, refl, ◌∙◌, arith, inl, inr}
use Rattle.std.specs.Char.{is_ascii_graphic}
use Rattle.std.specs.List.{flat_map, AllByRecursion}
use Rattle.std.specs.Str.{IsUtf8}
use Rattle.std.proofs.lemmas.Bool.{and_parts, cases_lt, leb-true}
use Rattle.std.proofs.lemmas.Bool.Decides.{nat_tests}
use Rattle.std.proofs.lemmas.Fmt.{decimal_by_steps}
use Rattle.std.proofs.lemmas.List.Folds.{list_all-append}
use Rattle.std.proofs.lemmas.List.Sums.{AllPass-from_list_all, list_all-from_AllPass}
use Rattle.std.proofs.lemmas.Str.{IsUtf8-from_ascii}
use Rattle.std.proofs.lemmas.Str.Ascii.{IsAscii-from_all}
use Rattle.base64.specs.GeneralPurpose.{IsBytes}
use Rattle.base64.specs.Rfc4648.{encode_symbols, padding_len}
use Rattle.jop_base.specs.Id.{IsIdText, is_digit}
use Rattle.jed_format.specs.Base64.{encoded}
use Rattle.jed_format.specs.Write.{IsSjcl, are_visible, chunk_text, ct_text, digit, framed_chunk, iv_text, jed_text, salt_text, six_digits, sizes_text}
use Rattle.jed_format.specs.declared.jed.Jed.{Jed}
use Rattle.jed_format.specs.declared.sjcl_chunk.SjclChunk.{SjclChunk}
use Rattle.jed_format.proofs.Encoded.{symbols}
use Rattle.jed_format.proofs.Valid.{limits_of}

cons_visible : (x : ℕ) (xs : List ℕ) → is_ascii_graphic x ≡ true → are_visible xs ≡ true
    → are_visible (x ∷ xs) ≡ true
cons_visible x xs first rest = rw (first, rest) refl

append_visible : (xs ys : List ℕ) → are_visible xs ≡ true → are_visible ys ≡ true
    → are_visible (xs ++ ys) ≡ true
append_visible xs ys front back = list_all-append is_ascii_graphic xs ys ∙ rw (front, back) refl

-- a number from 33 to 126
graphic : (b : ℕ) → 32 < b → b < 127 → is_ascii_graphic b ≡ true
graphic b low high =
    let above : nat_le 33 b ≡ true = grind (arith, nat_tests) in
    let below : nat_le b 126 ≡ true = grind (arith, nat_tests) in
    rw (above, below) refl

-- ---- base64

-- the symbols of the first so many numbers are
table_visible : ℕ → Bool
table_visible zero = true
table_visible (suc n) = is_ascii_graphic (slice_index symbols n) && table_visible n

whole_table : table_visible 64 ≡ true
unfolding table_visible
whole_table = refl

symbol_at : (n v : ℕ) → table_visible n ≡ true → v < n → is_ascii_graphic (slice_index symbols v) ≡ true
unfolding table_visible
symbol_at zero v h lt = absurd (omega arith)
symbol_at (suc n) v h lt =
    let parts = and_parts (is_ascii_graphic (slice_index symbols n)) (table_visible n) h in
    elim (cases_lt v n) [
      | inl below ↦ symbol_at n v parts.1 below
      | inr above ↦ let same : v ≡ n = omega arith in rw same parts.0
    ]

symbol_visible : (v : ℕ) → v < 64 → is_ascii_graphic (slice_index symbols v) ≡ true
symbol_visible v lt = symbol_at 64 v whole_table lt

padding_visible : (n : ℕ) → are_visible (replicate n 61) ≡ true
padding_visible zero = refl
padding_visible (suc n) = cons_visible 61 (replicate n 61) refl (padding_visible n)

symbols_visible : (m : List ℕ) → IsBytes m → are_visible (encode_symbols symbols m) ≡ true
unfolding encode_symbols
symbols_visible [] is = refl
symbols_visible (a ∷ []) is =
    let la : a < 256 = is 0 in
    cons_visible (slice_index symbols (a / 4)) (slice_index symbols (a % 4 * 16) ∷ []) (symbol_visible (a / 4) (omega arith))
    (cons_visible (slice_index symbols (a % 4 * 16)) [] (symbol_visible (a % 4 * 16) (omega arith)) refl)
symbols_visible (a ∷ b ∷ []) is =
    let la : a < 256 = is 0 in
    let lb : b < 256 = is 1 in
    cons_visible (slice_index symbols (a / 4))
    (slice_index symbols (a % 4 * 16 + b / 16) ∷ slice_index symbols (b % 16 * 4) ∷ []) (symbol_visible (a / 4) (omega arith))
    (cons_visible (slice_index symbols (a % 4 * 16 + b / 16)) (slice_index symbols (b % 16 * 4) ∷ [])
    (symbol_visible (a % 4 * 16 + b / 16) (omega arith))
    (cons_visible (slice_index symbols (b % 16 * 4)) [] (symbol_visible (b % 16 * 4) (omega arith)) refl))
symbols_visible (a ∷ b ∷ c ∷ m) is =
    let la : a < 256 = is 0 in
    let lb : b < 256 = is 1 in
    let lc : c < 256 = is 2 in
    let more : IsBytes m = λ i. is (suc (suc (suc i))) in
    let rest : List ℕ = encode_symbols symbols m in
    cons_visible (slice_index symbols (a / 4))
    (slice_index symbols (a % 4 * 16 + b / 16) ∷ slice_index symbols (b % 16 * 4 + c / 64) ∷ slice_index symbols (c % 64) ∷ rest)
    (symbol_visible (a / 4) (omega arith))
    (cons_visible (slice_index symbols (a % 4 * 16 + b / 16))
    (slice_index symbols (b % 16 * 4 + c / 64) ∷ slice_index symbols (c % 64) ∷ rest)
    (symbol_visible (a % 4 * 16 + b / 16) (omega arith))
    (cons_visible (slice_index symbols (b % 16 * 4 + c / 64)) (slice_index symbols (c % 64) ∷ rest)
    (symbol_visible (b % 16 * 4 + c / 64) (omega arith))
    (cons_visible (slice_index symbols (c % 64)) rest (symbol_visible (c % 64) (omega arith)) (symbols_visible m more))))

encoded_visible : (bytes : List ℕ) → IsBytes bytes → are_visible (encoded bytes) ≡ true
unfolding encoded
encoded_visible bytes is =
    append_visible (encode_symbols symbols bytes) (replicate (padding_len (length bytes)) 61)
    (symbols_visible bytes is) (padding_visible (padding_len (length bytes)))

-- ---- digits

digit_visible : (n : ℕ) → n < 10 → are_visible ((48 + n) ∷ []) ≡ true
digit_visible n small = cons_visible (48 + n) [] (graphic (48 + n) (omega arith) (omega arith)) refl

decimal_visible : (n : ℕ) → n < 2 ^ 64 → are_visible (decimal n) ≡ true
decimal_visible n small =
    decimal_by_steps (λ (k : ℕ) (ds : List ℕ). are_visible ds ≡ true) digit_visible
    (λ k ds high held. append_visible ds ((48 + k % 10) ∷ []) held (digit_visible (k % 10) (omega arith))) n small

hexadecimal_visible : (n : ℕ) → is_ascii_graphic (digit n) ≡ true
hexadecimal_visible n = elim (cases_lt (n % 16) 10) [
  | inl low ↦
      let a : nat_lt (n % 16) 10 ≡ true = grind (arith, nat_tests) in
      rw a (graphic (48 + n % 16) (omega arith) (omega arith))
  | inr high ↦
      let a : nat_lt (n % 16) 10 ≡ false = grind (arith, nat_tests) in
      let less : n % 16 < 16 = omega arith in
      rw a (graphic (87 + n % 16) (omega arith) (omega arith))
]

six_visible : (n : ℕ) → are_visible (six_digits n) ≡ true
six_visible n =
    rw (
      hexadecimal_visible (n / 1048576),
      hexadecimal_visible (n / 65536),
      hexadecimal_visible (n / 4096),
      hexadecimal_visible (n / 256),
      hexadecimal_visible (n / 16),
      hexadecimal_visible n,
    ) refl

id_digit_visible : (d : ℕ) → is_digit d ≡ true → is_ascii_graphic d ≡ true
id_digit_visible d is = elim (cases_lt d 33) [
  | inl low ↦ absurd (grind (arith, nat_tests))
  | inr some ↦ elim (cases_lt d 127) [
    | inl letter ↦ graphic d (omega arith) letter
    | inr high ↦ absurd (grind (arith, nat_tests))
  ]
]

id_visible : (id : List ℕ) → IsIdText id → are_visible id ≡ true
id_visible id is =
    list_all-from_AllPass is_ascii_graphic id (λ k d lt. id_digit_visible (get_or id k d) (is.digits k d lt))

-- ---- texts

pub chunk_visible : (c : SjclChunk) → IsSjcl c → are_visible (chunk_text c) ≡ true
unfolding chunk_text
chunk_visible c is =
    let limits = limits_of c is.valid in
    let iter = append_visible (codes "\",\"v\":1,\"iter\":") (decimal c.iter) refl (decimal_visible c.iter (omega (arith, limits.few_turns))) in
    let ks = append_visible (codes ",\"ks\":") (decimal c.ks) refl (decimal_visible c.ks (omega (arith, limits.small_key))) in
    let ts = append_visible (codes ",\"ts\":") (decimal c.ts) refl (decimal_visible c.ts (omega (arith, limits.small_tag))) in
    let iv = append_visible (codes "{\"iv\":\"") (encoded c.iv) refl (encoded_visible c.iv is.iv) in
    let iter_text : List ℕ = codes "\",\"v\":1,\"iter\":" ++ decimal c.iter in
    let ks_text : List ℕ = codes ",\"ks\":" ++ decimal c.ks in
    let ts_text : List ℕ = codes ",\"ts\":" ++ decimal c.ts in
    let sizes = append_visible (iter_text ++ ks_text) ts_text (append_visible iter_text ks_text iter ks) ts in
    let salt = append_visible (codes ",\"mode\":\"ccm\",\"adata\":\"\",\"cipher\":\"aes\",\"salt\":\"")
    (encoded c.salt) refl (encoded_visible c.salt is.salt) in
    let ct = append_visible (codes "\",\"ct\":\"" ++ encoded c.ct) (codes "\"}")
    (append_visible (codes "\",\"ct\":\"") (encoded c.ct) refl (encoded_visible c.ct is.ct)) refl in
    append_visible (iv_text c ++ sizes_text c ++ salt_text c) (ct_text c)
    (append_visible (iv_text c ++ sizes_text c) (salt_text c)
    (append_visible (iv_text c) (sizes_text c) iv sizes) salt) ct

chunks_visible : (chunks : List SjclChunk) → AllByRecursion IsSjcl chunks
    → are_visible (flat_map framed_chunk chunks) ≡ true
chunks_visible [] all = refl
chunks_visible (c ∷ chunks) all =
    append_visible (framed_chunk c) (flat_map framed_chunk chunks)
    (append_visible (six_digits (length (chunk_text c))) (chunk_text c) (six_visible (length (chunk_text c)))
    (chunk_visible c all.0))
    (chunks_visible chunks all.1)

pub jed_visible : (j : Jed) → IsIdText j.key → AllByRecursion IsSjcl j.chunks → are_visible (jed_text j) ≡ true
unfolding jed_text
jed_visible j id all =
    append_visible (codes "JED0100002205" ++ j.key) (flat_map framed_chunk j.chunks)
    (append_visible (codes "JED0100002205") j.key refl (id_visible j.key id)) (chunks_visible j.chunks all)

-- ---- such a text is UTF-8

ascii_of : (b : ℕ) → is_ascii_graphic b ≡ true → b < 128
ascii_of b is =
    let parts = and_parts (nat_le 33 b) (nat_le b 126) is in
    let high = leb-true b 126 parts.1 in
    omega arith

pub IsUtf8-visible : (text : List ℕ) → are_visible text ≡ true → IsUtf8 text
IsUtf8-visible text is =
    let all = AllPass-from_list_all is_ascii_graphic text is in
    IsUtf8-from_ascii text (IsAscii-from_all text (λ k d lt. ascii_of (get_or text k d) (all k d lt)))
