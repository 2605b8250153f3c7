-- What is written as a sealed text is read back.
use Rattle.std.proofs.Common.{◌≡◌, ℕ, zero, suc, ◌+◌, ◌-◌, ◌*◌, ◌/◌, ◌%◌, ◌<◌, ◌≤◌, ◌^◌, true, false, nat_le, nat_lt, List, [], ◌∷◌, ◌++◌, length, drop, Some, Ok, Err, option_and_then, codes, refl, sym, ap, ◌∙◌, arith, inl, inr, length-append}
use Rattle.std.specs.List.{flat_map, AllByRecursion}
use Rattle.std.specs.Option.{option_map_or}
use Rattle.std.proofs.lemmas.Bool.{cases_lt, le-leb}
use Rattle.std.proofs.lemmas.Bool.Decides.{nat_tests}
use Rattle.std.proofs.lemmas.List.{take_at, drop_at}
use Rattle.jop_base.proofs.IdLaws.{is_id-from_IsIdText}
use Rattle.jop_base.specs.Id.{IsIdText}
use Rattle.jed_text.specs.Hexadecimal.{digit_number, number_of_two, number_of_four}
use Rattle.jed_format.specs.Jed.{six_of, length_in, key_id_in, header_in, piece_in, behind, then_more, chunks_from, chunks_in, jed, under_header, jed_in}
use Rattle.jed_format.specs.Write.{IsSjcl, digit, six_digits, chunk_text, framed_chunk, jed_text}
use Rattle.jed_format.specs.declared.jed.Jed.{Jed}
use Rattle.jed_format.specs.declared.jed_err.JedErr.TheVariants.{BadChunk}
use Rattle.jed_format.specs.declared.sjcl_chunk.SjclChunk.{SjclChunk}
use Rattle.jed_format.proofs.Chunks.{after_piece, piece_at, chunks_at, no_chunks}
use Rattle.jed_format.proofs.Texts.{chunk_in-chunk_text}

-- ---- six digits

value_of-digit : (n : ℕ) → digit_number (digit n) ≡ Some (n % 16)
value_of-digit n = elim (cases_lt (n % 16) 10) [
  | inl low ↦
      let a : nat_lt (n % 16) 10 ≡ true = grind (arith, nat_tests) in
      let b : nat_le 48 (48 + n % 16) ≡ true = grind (arith, nat_tests) in
      let d : nat_le (48 + n % 16) 57 ≡ true = grind (arith, nat_tests) in
      let e : 48 + n % 16 - 48 ≡ n % 16 = omega arith in
      rw (a, b, d, e) refl
  | inr high ↦
      let a : nat_lt (n % 16) 10 ≡ false = grind (arith, nat_tests) in
      let less : n % 16 < 16 = omega arith in
      let b : nat_le 48 (87 + n % 16) ≡ true = grind (arith, nat_tests) in
      let d : nat_le (87 + n % 16) 57 ≡ false = grind (arith, nat_tests) in
      let f : nat_le 65 (87 + n % 16) ≡ true = grind (arith, nat_tests) in
      let g : nat_le (87 + n % 16) 70 ≡ false = grind (arith, nat_tests) in
      let h : nat_le 97 (87 + n % 16) ≡ true = grind (arith, nat_tests) in
      let i : nat_le (87 + n % 16) 102 ≡ true = grind (arith, nat_tests) in
      let e : 87 + n % 16 - 87 ≡ n % 16 = omega arith in
      rw (a, b, d, f, g, h, i, e) refl
]

six : (n : ℕ) → n < 2 ^ 24
    → six_of (number_of_two (digit (n / 1048576)) (digit (n / 65536)))
    (number_of_four (digit (n / 4096)) (digit (n / 256)) (digit (n / 16)) (digit n)) ≡ Some n
six n small =
    let whole : 65536 * (16 * (n / 1048576 % 16) + n / 65536 % 16)
    + (256 * (16 * (n / 4096 % 16) + n / 256 % 16) + (16 * (n / 16 % 16) + n % 16)) ≡ n = omega arith in
    rw (
      value_of-digit (n / 1048576),
      value_of-digit (n / 65536),
      value_of-digit (n / 4096),
      value_of-digit (n / 256),
      value_of-digit (n / 16),
      value_of-digit n,
      whole,
    ) refl

length_in-six_digits : (n : ℕ) (rest : List ℕ) → n < 2 ^ 24 → length_in (six_digits n ++ rest) ≡ Some n
length_in-six_digits n rest small =
    let long : nat_lt (length (six_digits n ++ rest)) 6 ≡ false = grind (arith, nat_tests) in
    rw long (six n small)

-- ---- one piece

piece_in-piece_text : (c : SjclChunk) (rest : List ℕ) → length (chunk_text c) < 2 ^ 24
    → piece_in (framed_chunk c ++ rest) ≡ Some (chunk_text c)
piece_in-piece_text c rest small =
    let text : List ℕ = chunk_text c in
    let body : List ℕ = framed_chunk c ++ rest in
    let fits : 6 + length text ≤ length (six_digits (length text) ++ (text ++ rest)) = omega (arith, length-append text rest) in
    let test : nat_le (6 + length text) (length (six_digits (length text) ++ (text ++ rest))) ≡ true =
    le-leb (6 + length text) (length (six_digits (length text) ++ (text ++ rest))) fits in
    ap (option_and_then (piece_at body)) (length_in-six_digits (length text) (text ++ rest) small)
    ∙ rw test (ap Some (take_at text rest (length text) refl))

-- ---- all pieces

pieces_text : List SjclChunk → List ℕ
pieces_text chunks = flat_map framed_chunk chunks

chunks_from-pieces : (chunks : List SjclChunk) (turns n : ℕ) → AllByRecursion IsSjcl chunks
    → AllByRecursion (λ c. length (chunk_text c) < 2 ^ 24) chunks → length chunks ≤ turns
    → chunks_from turns n (flat_map framed_chunk chunks) ≡ Ok chunks
chunks_from-pieces [] turns n valid short enough = no_chunks turns n
chunks_from-pieces (c ∷ chunks) zero n valid short enough = absurd (omega arith)
chunks_from-pieces (c ∷ chunks) (suc turns) n valid short enough =
    let rest : List ℕ = flat_map framed_chunk chunks in
    let body : List ℕ = framed_chunk c ++ rest in
    let text : List ℕ = chunk_text c in
    let behind_piece : drop (6 + length text) body ≡ rest =
    drop_at (six_digits (length text) ++ text) rest (6 + length text) (omega arith) in
    chunks_at turns n body (omega arith)
    ∙ ap (λ o. option_map_or (after_piece turns n body) o (Err (BadChunk n))) (piece_in-piece_text c rest short.0)
    ∙ ap (λ r. then_more r (chunks_from turns (n + 1) (drop (6 + length text) body))) (chunk_in-chunk_text c n valid.0)
    ∙ ap (λ (more : List ℕ). behind (c ∷ []) (chunks_from turns (n + 1) more)) behind_piece
    ∙ ap (behind (c ∷ [])) (chunks_from-pieces chunks turns (n + 1) valid.1 short.1 (omega arith))

enough_turns : (chunks : List SjclChunk) → length chunks ≤ length (flat_map framed_chunk chunks)
enough_turns [] = omega arith
enough_turns (c ∷ chunks) =
    omega (
      arith,
      enough_turns chunks,
      length-append (framed_chunk c) (flat_map framed_chunk chunks),
    )

-- ---- the header

key_of_header : (key rest : List ℕ) → IsIdText key → key_id_in (key ++ rest) ≡ Some key
key_of_header key rest id = rw (take_at key rest 32 id.long, is_id-from_IsIdText key id) refl

header_in-jed_text : (key rest : List ℕ) → IsIdText key
    → header_in (codes "JED0100002205" ++ (key ++ rest)) ≡ Ok (5, key)
header_in-jed_text key rest id =
    let long : nat_lt (length (codes "00002205" ++ (key ++ rest))) 6 ≡ false = grind (arith, nat_tests) in
    let some : nat_lt (length (codes "05" ++ (key ++ rest))) 2 ≡ false = grind (arith, nat_tests) in
    rw (long, some, key_of_header key rest id) refl

pub jed_in-jed_text : (j : Jed) → j.method ≡ 5 → IsIdText j.key → AllByRecursion IsSjcl j.chunks
    → AllByRecursion (λ c. length (chunk_text c) < 2 ^ 24) j.chunks
    → jed_in (jed_text j) ≡ Ok j
unfolding jed_in jed_text
jed_in-jed_text j method id valid short =
    let rest : List ℕ = flat_map framed_chunk j.chunks in
    let body : drop 45 (codes "JED0100002205" ++ (j.key ++ rest)) ≡ rest =
    drop_at (codes "JED0100002205" ++ j.key) rest 45 (omega (arith, id.long)) in
    ap (λ h. under_header h (drop 45 (codes "JED0100002205" ++ (j.key ++ rest)))) (header_in-jed_text j.key rest id)
    ∙ ap (λ (b : List ℕ). jed (5, j.key) (chunks_in b)) body
    ∙ ap (jed (5, j.key)) (chunks_from-pieces j.chunks (length rest) 1 valid short (enough_turns j.chunks))
    ∙ ap (λ m. Ok (record { method = m; key = j.key; chunks = j.chunks })) (sym method)
