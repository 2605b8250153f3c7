-- What is read is what the grammar says.
use Rattle.std.proofs.Common.{◌≡◌, ℕ, zero, suc, ◌+◌, ◌≤◌, true, false, ◌==◌, nat_le, nat_lt, nat_eq, List, [], ◌∷◌, ◌++◌, length, drop, Some, None, Ok, Err, option_and_then, codes, refl, sym, ap, ◌∙◌, arith, inl, inr, append_assoc, length-append, if◌then◌else◌}
use Rattle.std.specs.Option.{option_map_or}
use Rattle.std.proofs.lemmas.Bool.{cases_lt, and_parts, eqb-true, le-leb}
use Rattle.std.proofs.lemmas.Bool.Decides.{nat_tests}
use Rattle.std.proofs.lemmas.List.{take_at, drop_at, drop-drop}
use Rattle.jop_base.specs.Id.{is_id}
use Rattle.jed_format.specs.Chunk.{passing}
use Rattle.jed_format.specs.Grammar.{IsPiece, AreChunks, IsJedText}
use Rattle.jed_format.specs.Jed.{length_in, method_number, key_id_in, has_size, jed_header, header_in, piece_in, behind, then_more, chunks_from, chunks_in, jed, under_header, jed_in}
use Rattle.jed_format.specs.declared.jed.Jed.{Jed}
use Rattle.jed_format.specs.declared.jed_err.JedErr.TheVariants.{BadChunk, UnsupportedMethod}
use Rattle.jed_format.specs.declared.sjcl_chunk.SjclChunk.{SjclChunk}
use Rattle.jed_format.proofs.Chunks.{after_piece, piece_at, chunks_at, no_chunks}

-- ---- numbers of the first digits

-- six digits are all that matters
pub length_in-append : (digits rest : List ℕ) → length digits ≡ 6 → length_in (digits ++ rest) ≡ length_in digits
length_in-append [] rest six = absurd (omega arith)
length_in-append (a ∷ []) rest six = absurd (omega arith)
length_in-append (a ∷ b ∷ []) rest six = absurd (omega arith)
length_in-append (a ∷ b ∷ d ∷ []) rest six = absurd (omega arith)
length_in-append (a ∷ b ∷ d ∷ e ∷ []) rest six = absurd (omega arith)
length_in-append (a ∷ b ∷ d ∷ e ∷ f ∷ []) rest six = absurd (omega arith)
length_in-append (a ∷ b ∷ d ∷ e ∷ f ∷ g ∷ []) rest six =
    let long : nat_lt (length (a ∷ b ∷ d ∷ e ∷ f ∷ g ∷ rest)) 6 ≡ false = grind (arith, nat_tests) in
    rw long refl
length_in-append (a ∷ b ∷ d ∷ e ∷ f ∷ g ∷ h ∷ more) rest six = absurd (omega arith)

pub method_in-append : (digits rest : List ℕ) → length digits ≡ 2 → method_number (digits ++ rest) ≡ method_number digits
method_in-append [] rest two = absurd (omega arith)
method_in-append (a ∷ []) rest two = absurd (omega arith)
method_in-append (a ∷ b ∷ []) rest two =
    let long : nat_lt (length (a ∷ b ∷ rest)) 2 ≡ false = grind (arith, nat_tests) in
    rw long refl
method_in-append (a ∷ b ∷ d ∷ more) rest two = absurd (omega arith)

pub length_in-some : (text : List ℕ) (n : ℕ) → length_in text ≡ Some n → 6 ≤ length text
length_in-some text n is = elim (cases_lt (length text) 6) [
  | inl short ↦
      let test : nat_lt (length text) 6 ≡ true = grind (arith, nat_tests) in
      let none : None ≡ Some n = rw test at is in
      absurd (cc none)
  | inr long ↦ long
]

pub method_in-some : (text : List ℕ) (n : ℕ) → method_number text ≡ Some n → 2 ≤ length text
method_in-some text n is = elim (cases_lt (length text) 2) [
  | inl short ↦
      let test : nat_lt (length text) 2 ≡ true = grind (arith, nat_tests) in
      let none : None ≡ Some n = rw test at is in
      absurd (cc none)
  | inr long ↦ long
]

-- ---- a piece

piece_in-piece : (digits piece rest : List ℕ) → IsPiece digits piece
    → piece_in (digits ++ (piece ++ rest)) ≡ Some piece
piece_in-piece digits piece rest is =
    let body : List ℕ = digits ++ (piece ++ rest) in
    let fits : 6 + length piece ≤ length body =
    omega (arith, length-append digits (piece ++ rest), length-append piece rest, is.six) in
    let test : nat_le (6 + length piece) (length body) ≡ true = le-leb (6 + length piece) (length body) fits in
    ap (option_and_then (piece_at body)) (length_in-append digits (piece ++ rest) is.six ∙ is.says)
    ∙ rw (test, drop_at digits (piece ++ rest) 6 is.six) (ap Some (take_at piece rest (length piece) refl))

after_digits : (digits piece rest : List ℕ) → length digits ≡ 6
    → drop (6 + length piece) (digits ++ (piece ++ rest)) ≡ rest
after_digits digits piece rest six =
    ap (drop (6 + length piece)) (sym (append_assoc digits piece rest))
    ∙ drop_at (digits ++ piece) rest (6 + length piece) (omega (arith, length-append digits piece, six))

-- ---- what the grammar says is read

chunks_from-AreChunks : (chunks : List SjclChunk) (body : List ℕ) (turns n : ℕ) → AreChunks body n chunks
    → length body ≤ turns → chunks_from turns n body ≡ Ok chunks
chunks_from-AreChunks [] body turns n is enough = ap (chunks_from turns n) is ∙ no_chunks turns n
chunks_from-AreChunks (c ∷ chunks) body zero n is enough =
    absurd (omega (arith, ap length is.3, length-append is.0 (is.1 ++ is.2), is.4.six))
chunks_from-AreChunks (c ∷ chunks) body (suc turns) n is enough =
    let digits : List ℕ = is.0 in
    let piece : List ℕ = is.1 in
    let rest : List ℕ = is.2 in
    let whole : List ℕ = digits ++ (piece ++ rest) in
    let long : length whole ≡ 6 + (length piece + length rest) =
    omega (arith, length-append digits (piece ++ rest), length-append piece rest, is.4.six) in
    ap (chunks_from (suc turns) n) is.3
    ∙ chunks_at turns n whole (omega arith)
    ∙ ap (λ o. option_map_or (after_piece turns n whole) o (Err (BadChunk n))) (piece_in-piece digits piece rest is.4)
    ∙ ap (λ r. then_more r (chunks_from turns (n + 1) (drop (6 + length piece) whole))) is.5
    ∙ ap (λ (more : List ℕ). behind (c ∷ []) (chunks_from turns (n + 1) more)) (after_digits digits piece rest is.4.six)
    ∙ ap (behind (c ∷ [])) (chunks_from-AreChunks chunks rest turns (n + 1) is.6 (omega (arith, ap length is.3)))

pub id_len : (key : List ℕ) → is_id key ≡ true → length key ≡ 32
id_len key is = eqb-true (length key) 32 (and_parts (nat_eq (length key) 32) _ is).0

key_in-append : (key body : List ℕ) → is_id key ≡ true → key_id_in (key ++ body) ≡ Some key
key_in-append key body is =
    ap (λ (k : List ℕ). passing is_id (Some k)) (take_at key body 32 (id_len key is))
    ∙ ap (λ b. if b then Some key else None) is

pub jed_in-IsJedText : (text : List ℕ) (j : Jed) → IsJedText text j → jed_in text ≡ Ok j
unfolding jed_in
jed_in-IsJedText text j is =
    let tail : List ℕ = j.key ++ is.body in
    let more : List ℕ = is.method ++ tail in
    let whole : List ℕ = codes "JED01" ++ (is.size ++ more) in
    let at_method : drop 11 whole ≡ more = drop_at is.size more 6 is.six in
    let at_key : drop 13 whole ≡ tail =
    sym (drop-drop 2 11 whole) ∙ ap (drop 2) at_method ∙ drop_at is.method tail 2 is.two in
    let at_body : drop 45 whole ≡ is.body =
    sym (drop-drop 32 13 whole) ∙ ap (drop 32) at_key ∙ drop_at j.key is.body 32 (id_len j.key is.key) in
    let sized : has_size (drop 5 whole) ≡ true =
    ap (λ o. option_map_or (λ size. size == 34) o false) (length_in-append is.size more is.six ∙ is.says) in
    let named : method_number (drop 11 whole) ≡ Some j.method =
    ap method_number at_method ∙ method_in-append is.method tail is.two ∙ is.names in
    let keyed : key_id_in (drop 13 whole) ≡ Some j.key = ap key_id_in at_key ∙ key_in-append j.key is.body is.key in
    let head : header_in whole ≡ Ok (j.method, j.key) =
    ap (λ b. jed_header true b (method_number (drop 11 whole)) (key_id_in (drop 13 whole))) sized
    ∙ ap (λ o. jed_header true true o (key_id_in (drop 13 whole))) named
    ∙ ap (λ o. jed_header true true (Some j.method) o) keyed in
    let chunks : chunks_in is.body ≡ Ok j.chunks =
    chunks_from-AreChunks j.chunks is.body (length is.body) 1 is.chunks (omega arith) in
    ap (λ (t : List ℕ). under_header (header_in t) (drop 45 t)) is.whole
    ∙ ap (λ h. under_header h (drop 45 whole)) head
    ∙ ap (λ b. if b then jed (j.method, j.key) (chunks_in (drop 45 whole)) else Err (UnsupportedMethod j.method)) is.known
    ∙ ap (λ (b : List ℕ). jed (j.method, j.key) (chunks_in b)) at_body
    ∙ ap (jed (j.method, j.key)) chunks
