-- What is read is what the grammar says.
use Rattle.std.proofs.Common.{◌≡◌, ℕ, zero, suc, ◌+◌, ◌≤◌, ◌<◌, Bool, true, false, ◌==◌, nat_le, List, [], ◌∷◌, ◌++◌, length, take, drop, Option, Some, None, Result, Ok, Err, option_and_then, codes, refl, sym, ap, subst, ◌∙◌, arith, inl, inr, length-drop, take-append-drop}
use Rattle.std.specs.Option.{option_map_or}
use Rattle.std.specs.Prelude.{bytes_eq}
use Rattle.std.proofs.lemmas.Bool.{cases_Bool, eqb-true, leb-true}
use Rattle.std.proofs.lemmas.List.{length-take-le, drop-drop}
use Rattle.std.proofs.lemmas.Slice.Eq.{bytes_eq-Decides}
use Rattle.jop_base.specs.Id.{is_id}
use Rattle.jed_format.specs.Chunk.{passing, chunk_in}
use Rattle.jed_format.specs.Grammar.{IsPiece, AreChunks, IsJedText}
use Rattle.jed_format.specs.Jed.{length_in, method_number, key_id_in, has_size, jed_header, header_in, is_method, piece_in, then_more, chunks_from, chunks_in, jed, under_header, jed_in}
use Rattle.jed_format.specs.declared.jed.Jed.{Jed}
use Rattle.jed_format.specs.declared.jed_err.JedErr.{JedErr}
use Rattle.jed_format.specs.declared.jed_err.JedErr.TheVariants.{BadChunk, UnsupportedMethod}
use Rattle.jed_format.specs.declared.sjcl_chunk.SjclChunk.{SjclChunk}
use Rattle.jed_format.proofs.Chunks.{after_piece, piece_at, chunks_at, no_chunks}
use Rattle.jed_format.proofs.Grammar.{length_in-append, length_in-some, method_in-append, method_in-some}

-- ---- a piece

record Piece (body piece : List ℕ) : Type 0 where
  fits : 6 + length piece ≤ length body
  says : length_in body ≡ Some (length piece)
  is : piece ≡ take (length piece) (drop 6 body)

piece_of : (body piece : List ℕ) → piece_in body ≡ Some piece → Piece body piece
piece_of body piece found = by_length (length_in body) refl where
  by_length : (o : Option ℕ) → length_in body ≡ o → Piece body piece
  by_length None none = absurd (let e = sym (ap (option_and_then (piece_at body)) none) ∙ found in cc e)
  by_length (Some len) some =
      let here : piece_at body len ≡ Some piece = sym (ap (option_and_then (piece_at body)) some) ∙ found in
      elim (cases_Bool (nat_le (6 + len) (length body))) [
        | inl yes_fits ↦
            let fits : 6 + len ≤ length body = leb-true (6 + len) (length body) yes_fits in
            let same : Some (take len (drop 6 body)) ≡ Some piece = rw yes_fits at here in
            let cut : take len (drop 6 body) ≡ piece = cc same in
            let size : length piece ≡ len =
            sym (ap length cut) ∙ length-take-le len (drop 6 body) (omega (arith, length-drop 6 body)) in
            record {
              fits = omega arith;
              says = some ∙ ap Some (sym size);
              is = sym cut ∙ ap (λ k. take k (drop 6 body)) (sym size);
            }
        | inr too_long ↦ absurd (let none : None ≡ Some piece = rw too_long at here in cc none)
      ]

digits_are : (body piece : List ℕ) → Piece body piece → IsPiece (take 6 body) piece
digits_are body piece is =
    let six : length (take 6 body) ≡ 6 = length-take-le 6 body (omega (arith, is.fits)) in
    record {
      six = six;
      says = sym (length_in-append (take 6 body) (drop 6 body) six) ∙ ap length_in (take-append-drop 6 body) ∙ is.says;
    }

body_is : (body piece : List ℕ) → Piece body piece
    → body ≡ take 6 body ++ (piece ++ drop (6 + length piece) body)
body_is body piece is =
    let rest : drop (6 + length piece) body ≡ drop (length piece) (drop 6 body) =
    sym (drop-drop (length piece) 6 body) in
    sym (take-append-drop 6 body)
    ∙ ap (λ (xs : List ℕ). take 6 body ++ xs)
    (sym (take-append-drop (length piece) (drop 6 body))
    ∙ ap (λ (xs : List ℕ). xs ++ drop (length piece) (drop 6 body)) (sym is.is)
    ∙ ap (λ (xs : List ℕ). piece ++ xs) (sym rest))

-- the first of several that were read, and the others
first_of : {T : Type 0} (first : Result T JedErr) (more : Result (List T) JedErr) (xs : List T)
    → then_more first more ≡ Ok xs
    → (x : T) × (rest : List T) × (xs ≡ x ∷ rest) × (first ≡ Ok x) × (more ≡ Ok rest)
first_of (Err e) more xs is = absurd (cc is)
first_of (Ok x) (Err e) xs is = absurd (cc is)
first_of (Ok x) (Ok rest) xs is = (x, rest, cc is, refl, refl)

-- ---- the chunks

chunks_step : (turns n : ℕ) (body : List ℕ) (chunks : List SjclChunk) → 0 < length body →
    length body ≤ suc turns →
    ((rest : List ℕ) (more : List SjclChunk) → length rest ≤ turns →
    chunks_from turns (n + 1) rest ≡ Ok more → AreChunks rest (n + 1) more) →
    chunks_from (suc turns) n body ≡ Ok chunks → (o : Option (List ℕ)) → piece_in body ≡ o →
    AreChunks body n chunks
chunks_step turns n body chunks some enough next is None none =
    let refused : Err (BadChunk n) ≡ Ok chunks =
    sym (chunks_at turns n body some
    ∙ ap (λ o. option_map_or (after_piece turns n body) o (Err (BadChunk n))) none) ∙ is in
    absurd (cc (refused))
chunks_step turns n body chunks some enough next is (Some piece) found =
    let rest : List ℕ = drop (6 + length piece) body in
    let read : then_more (chunk_in piece n) (chunks_from turns (n + 1) rest) ≡ Ok chunks =
    sym (chunks_at turns n body some
    ∙ ap (λ o. option_map_or (after_piece turns n body) o (Err (BadChunk n))) found) ∙ is in
    let f = first_of (chunk_in piece n) (chunks_from turns (n + 1) rest) chunks read in
    let p = piece_of body piece found in
    let fewer : length rest ≤ turns =
    omega (arith, length-drop (6 + length piece) body, enough, p.fits) in
    subst (λ (cs : List SjclChunk). AreChunks body n cs) (sym f.2) (
      take 6 body,
      piece,
      rest,
      body_is body piece p,
      digits_are body piece p,
      f.3,
      next rest f.1 fewer f.4,
    )

chunks_are : (turns n : ℕ) (body : List ℕ) (chunks : List SjclChunk) → length body ≤ turns →
    chunks_from turns n body ≡ Ok chunks → AreChunks body n chunks
chunks_are turns n [] chunks enough is =
    let all : Ok [] ≡ Ok chunks = sym (no_chunks turns n) ∙ is in
    let none : [] ≡ chunks = cc (all) in
    subst (λ (cs : List SjclChunk). AreChunks [] n cs) none refl
chunks_are zero n (b ∷ body) chunks enough is = absurd (omega (arith, enough))
chunks_are (suc turns) n (b ∷ body) chunks enough is =
    chunks_step turns n (b ∷ body) chunks (omega arith) enough
    (λ rest more fewer read. chunks_are turns (n + 1) rest more fewer read) is
    (piece_in (b ∷ body)) refl

-- ---- the header

record Header (marked sized : Bool) (method : Option ℕ) (key : Option (List ℕ))
    (head : ℕ × List ℕ) : Type 0 where
  mark : marked ≡ true
  size : sized ≡ true
  names : method ≡ Some head.0
  keyed : key ≡ Some head.1

header_of : (marked sized : Bool) (method : Option ℕ) (key : Option (List ℕ))
    (head : ℕ × List ℕ) → jed_header marked sized method key ≡ Ok head →
    Header marked sized method key head
header_of false sized method key head is = absurd (cc (is))
header_of true false method key head is = absurd (cc (is))
header_of true true None key head is = absurd (cc (is))
header_of true true (Some m) None head is = absurd (cc (is))
header_of true true (Some m) (Some k) head is =
    let same : (m, k) ≡ head = cc (is) in
    record {
      mark = refl;
      size = refl;
      names = ap (λ (h : ℕ × List ℕ). Some h.0) same;
      keyed = ap (λ (h : ℕ × List ℕ). Some h.1) same;
    }

sized_34 : (o : Option ℕ) → option_map_or (λ size. size == 34) o false ≡ true → o ≡ Some 34
sized_34 None is = absurd (cc (is))
sized_34 (Some size) is = ap Some (eqb-true size 34 is)

key_of : (text key : List ℕ) → passing is_id (Some text) ≡ Some key →
    (text ≡ key) × (is_id text ≡ true)
key_of text key is = elim (cases_Bool (is_id text)) [
  | inl passes ↦ let same : Some text ≡ Some key = rw passes at is in (cc same, passes)
  | inr fails ↦ absurd (let none : None ≡ Some key = rw fails at is in cc none)
]

-- the first of some bytes, and the others
cut : (n : ℕ) (text : List ℕ) → text ≡ take n text ++ drop n text
cut n text = sym (take-append-drop n text)

-- ---- the whole

read_whole : (text : List ℕ) (j : Jed) (head : ℕ × List ℕ) →
    Header (bytes_eq (take 5 text) (codes "JED01")) (has_size (drop 5 text))
    (method_number (drop 11 text)) (key_id_in (drop 13 text)) head →
    is_method head.0 ≡ true → chunks_in (drop 45 text) ≡ Ok j.chunks → j.method ≡ head.0 →
    j.key ≡ head.1 → IsJedText text j
read_whole text j head h known chunks method key =
    let sized = sized_34 (length_in (drop 5 text)) h.size in
    let long = length_in-some (drop 5 text) 34 sized in
    let six : length (take 6 (drop 5 text)) ≡ 6 = length-take-le 6 (drop 5 text) long in
    let named = method_in-some (drop 11 text) head.0 h.names in
    let two : length (take 2 (drop 11 text)) ≡ 2 = length-take-le 2 (drop 11 text) named in
    let keyed = key_of (take 32 (drop 13 text)) head.1 h.keyed in
    let mark : take 5 text ≡ codes "JED01" =
    (bytes_eq-Decides (take 5 text) (codes "JED01")).0 h.mark in
    let behind_size : drop 6 (drop 5 text) ≡ drop 11 text = drop-drop 6 5 text in
    let behind_method : drop 2 (drop 11 text) ≡ drop 13 text = drop-drop 2 11 text in
    let behind_key : drop 32 (drop 13 text) ≡ drop 45 text = drop-drop 32 13 text in
    let key_body : drop 13 text ≡ j.key ++ drop 45 text =
    cut 32 (drop 13 text)
    ∙ (ap (λ (k : List ℕ). k ++ drop 32 (drop 13 text)) (keyed.0 ∙ sym key)
    ∙ ap (λ (b : List ℕ). j.key ++ b) behind_key) in
    let method_on : drop 11 text ≡ take 2 (drop 11 text) ++ (j.key ++ drop 45 text) =
    cut 2 (drop 11 text)
    ∙ ap (λ (t : List ℕ). take 2 (drop 11 text) ++ t) (behind_method ∙ key_body) in
    let size_on : drop 5 text ≡
    take 6 (drop 5 text) ++ (take 2 (drop 11 text) ++ (j.key ++ drop 45 text)) =
    cut 6 (drop 5 text)
    ∙ ap (λ (t : List ℕ). take 6 (drop 5 text) ++ t) (behind_size ∙ method_on) in
    record {
      size = take 6 (drop 5 text);
      method = take 2 (drop 11 text);
      body = drop 45 text;
      whole = cut 5 text
          ∙ (ap (λ (m : List ℕ). m ++ drop 5 text) mark
          ∙ ap (λ (t : List ℕ). codes "JED01" ++ t) size_on);
      six = six;
      says = sym (length_in-append (take 6 (drop 5 text)) (drop 6 (drop 5 text)) six)
          ∙ (ap length_in (take-append-drop 6 (drop 5 text)) ∙ sized);
      two = two;
      names = sym (method_in-append (take 2 (drop 11 text)) (drop 2 (drop 11 text)) two)
          ∙ (ap method_number (take-append-drop 2 (drop 11 text))
          ∙ (h.names ∙ ap Some (sym method)));
      known = ap is_method method ∙ known;
      key = ap is_id (key ∙ sym keyed.0) ∙ keyed.1;
      chunks = chunks_are (length (drop 45 text)) 1 (drop 45 text) j.chunks (omega arith) chunks;
    }

by_chunks : (text : List ℕ) (j : Jed) (head : ℕ × List ℕ) → header_in text ≡ Ok head →
    is_method head.0 ≡ true → (r : Result (List SjclChunk) JedErr) →
    chunks_in (drop 45 text) ≡ r → jed head r ≡ Ok j → IsJedText text j
by_chunks text j head at_head known (Err e) chunks is = absurd (cc (is))
by_chunks text j head at_head known (Ok cs) chunks is =
    let same : record { method = head.0; key = head.1; chunks = cs } ≡ j = cc (is) in
    read_whole text j head (header_of _ _ _ _ head at_head) known
    (chunks ∙ ap (λ (k : Jed). Ok k.chunks) same) (ap (λ (k : Jed). k.method) (sym same))
    (ap (λ (k : Jed). k.key) (sym same))

by_header : (text : List ℕ) (j : Jed) (h : Result (ℕ × List ℕ) JedErr) → header_in text ≡ h →
    under_header h (drop 45 text) ≡ Ok j → IsJedText text j
by_header text j (Err e) at_head is = absurd (cc (is))
by_header text j (Ok head) at_head is = elim (cases_Bool (is_method head.0)) [
  | inl known ↦
      let read : jed head (chunks_in (drop 45 text)) ≡ Ok j = rw known at is in
      by_chunks text j head at_head known (chunks_in (drop 45 text)) refl read
  | inr unknown ↦
      absurd (let refused : Err (UnsupportedMethod head.0) ≡ Ok j = rw unknown at is in cc refused)
]

-- a text that is read is one of the grammar
pub text_of_jed_in : (text : List ℕ) (j : Jed) → jed_in text ≡ Ok j → IsJedText text j
unfolding jed_in
text_of_jed_in text j is = by_header text j (header_in text) refl is
