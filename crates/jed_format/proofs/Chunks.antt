-- The chunks of a body, one after the other.
use Rattle.std.proofs.Common.{◌≡◌, ℕ, zero, suc, ◌+◌, ◌-◌, ◌<◌, ◌≤◌, Bool, true, false, ◌==◌, nat_le, if◌then◌else◌, List, [], ◌∷◌, ◌++◌, length, take, drop, Option, Some, None, option_and_then, Result, Ok, Err, refl, sym, ap, ◌∙◌, arith, append_assoc, append-nil}
use Rattle.std.specs.Option.{option_map_or}
use Rattle.std.proofs.lemmas.Bool.{eqb-true, le-leb}
use Rattle.jed_format.specs.Chunk.{chunk_in}
use Rattle.jed_format.specs.Jed.{length_in, piece_in, behind, then_more, chunks_from}
use Rattle.jed_format.specs.Refusals.{Refuses}
use Rattle.jed_format.specs.declared.jed_err.JedErr.{JedErr}
use Rattle.jed_format.specs.declared.jed_err.JedErr.TheVariants as errors
use Rattle.jed_format.specs.declared.sjcl_chunk.SjclChunk.{SjclChunk}

-- ---- what is put behind

pub behind-behind : {T : Type 0} (xs ys : List T) (more : Result (List T) JedErr)
    → behind xs (behind ys more) ≡ behind (xs ++ ys) more
behind-behind xs ys (Err e) = refl
behind-behind xs ys (Ok zs) = ap Ok (sym (append_assoc xs ys zs))

pub behind-nil : {T : Type 0} (more : Result (List T) JedErr) → behind [] more ≡ more
behind-nil (Err e) = refl
behind-nil (Ok zs) = refl

-- a refusal of what is meant first is that of the whole
pub refuses_first : {A B : Type 0} (first : Result A JedErr) (whole : Result B JedErr)
    → ((e : JedErr) → first ≡ Err e → whole ≡ Err e) → (e : JedErr) → Refuses first e
    → Refuses whole e
refuses_first first whole each errors.NoMemory h = tt
refuses_first first whole each (errors.NotJed at) h = each (errors.NotJed at) h
refuses_first first whole each (errors.BadChunk n) h = each (errors.BadChunk n) h
refuses_first first whole each (errors.UnsupportedMethod m) h = each (errors.UnsupportedMethod m) h
refuses_first first whole each (errors.UnsupportedMode n) h = each (errors.UnsupportedMode n) h
refuses_first first whole each (errors.BadTag n) h = each (errors.BadTag n) h

-- ---- one chunk

abbrev pub after_piece : ℕ → ℕ → List ℕ → List ℕ → Result (List SjclChunk) JedErr
after_piece left n body piece =
    then_more (chunk_in piece n) (chunks_from left (n + 1) (drop (6 + length piece) body))

pub chunks_at : (left n : ℕ) (body : List ℕ) → 0 < length body
    → chunks_from (suc left) n body
    ≡ option_map_or (after_piece left n body) (piece_in body) (Err (errors.BadChunk n))
unfolding chunks_from
chunks_at left n [] some = absurd (omega arith)
chunks_at left n (b ∷ body) some = refl

-- where reading stands: the chunks that were read, and how many turns are left
pub record Stands (whole : Result (List SjclChunk) JedErr) (chunks : List SjclChunk)
    (turns n : ℕ) (rest : List ℕ) : Type 0 where
  pub read : whole ≡ behind chunks (chunks_from turns n rest)

pub stands_first : (body : List ℕ) → Stands (chunks_from (length body) 1 body) [] (length body - 0) (0 + 1) body
stands_first body =
    let same : length body - 0 ≡ length body = omega arith in
    record { read = rw same (sym (behind-nil (chunks_from (length body) 1 body))) }

pub stands_after : {whole : Result (List SjclChunk) JedErr} {chunks : List SjclChunk}
    {len at : ℕ} {rest : List ℕ} (piece next : List ℕ) (c : SjclChunk) (new : List SjclChunk)
    → Stands whole chunks (len - at) (at + 1) rest → at < len → 0 < length rest
    → Some piece ≡ piece_in rest → chunk_in piece (at + 1) ≡ Ok c → new ≡ chunks ++ c ∷ []
    → next ≡ drop (6 + length piece) rest
    → Stands whole new (len - (at + 1)) (at + 1 + 1) next
stands_after {whole} {chunks} {len} {at} {rest} piece next c new held more some found read put cut =
    let left : ℕ = len - (at + 1) in
    let turns : len - at ≡ suc left = omega arith in
    let tail = chunks_from left (at + 1 + 1) (drop (6 + length piece) rest) in
    let step : chunks_from (suc left) (at + 1) rest ≡ behind (c ∷ []) tail =
    chunks_at left (at + 1) rest some
    ∙ ap (λ o. option_map_or (after_piece left (at + 1) rest) o (Err (errors.BadChunk (at + 1)))) (sym found)
    ∙ ap (λ r. then_more r tail) read in
    record {
      read = held.read ∙ ap (λ k. behind chunks (chunks_from k (at + 1) rest)) turns
          ∙ ap (behind chunks) step ∙ behind-behind chunks (c ∷ []) tail
          ∙ ap (λ cs. behind cs tail) (sym put)
          ∙ ap (λ (r : List ℕ). behind new (chunks_from left (at + 1 + 1) r)) (sym cut);
    }

pub refused_without_piece : {whole : Result (List SjclChunk) JedErr} {chunks : List SjclChunk}
    {len at : ℕ} {rest : List ℕ}
    → Stands whole chunks (len - at) (at + 1) rest → at < len → 0 < length rest
    → None ≡ piece_in rest → whole ≡ Err (errors.BadChunk (at + 1))
refused_without_piece {whole} {chunks} {len} {at} {rest} held more some none =
    let left : ℕ = len - (at + 1) in
    let turns : len - at ≡ suc left = omega arith in
    held.read ∙ ap (λ k. behind chunks (chunks_from k (at + 1) rest)) turns
    ∙ ap (behind chunks) (chunks_at left (at + 1) rest some
    ∙ ap (λ o. option_map_or (after_piece left (at + 1) rest) o (Err (errors.BadChunk (at + 1)))) (sym none))

pub refused_with_piece : {whole : Result (List SjclChunk) JedErr} {chunks : List SjclChunk}
    {len at : ℕ} {rest : List ℕ} (piece : List ℕ) (e : JedErr)
    → Stands whole chunks (len - at) (at + 1) rest → at < len → 0 < length rest
    → Some piece ≡ piece_in rest → Refuses (chunk_in piece (at + 1)) e → Refuses whole e
refused_with_piece {whole} {chunks} {len} {at} {rest} piece e held more some found refused =
    let left : ℕ = len - (at + 1) in
    let turns : len - at ≡ suc left = omega arith in
    let tail = chunks_from left (at + 1 + 1) (drop (6 + length piece) rest) in
    let here : whole ≡ behind chunks (then_more (chunk_in piece (at + 1)) tail) =
    held.read ∙ ap (λ k. behind chunks (chunks_from k (at + 1) rest)) turns
    ∙ ap (behind chunks) (chunks_at left (at + 1) rest some
    ∙ ap (λ o. option_map_or (after_piece left (at + 1) rest) o (Err (errors.BadChunk (at + 1)))) (sym found)) in
    refuses_first (chunk_in piece (at + 1)) whole
    (λ e is. here ∙ ap (λ r. behind chunks (then_more r tail)) is) e refused

pub no_chunks : (turns n : ℕ) → chunks_from turns n [] ≡ Ok []
unfolding chunks_from
no_chunks zero n = refl
no_chunks (suc turns) n = refl

-- nothing is left
pub stands_last : {whole : Result (List SjclChunk) JedErr} {chunks : List SjclChunk} {turns n : ℕ} {rest : List ℕ}
    → Stands whole chunks turns n rest → rest ≡ [] → whole ≡ Ok chunks
stands_last {whole} {chunks} {turns} {n} {rest} held end =
    held.read ∙ ap (λ r. behind chunks (chunks_from turns n r)) end ∙ ap (behind chunks) (no_chunks turns n)
    ∙ ap Ok (append-nil chunks)

none_left : (n : ℕ) (rest : List ℕ) → chunks_from 0 n rest ≡ Ok []
unfolding chunks_from
none_left n [] = refl
none_left n (b ∷ rest) = refl

-- no turn is left
pub stands_out : {whole : Result (List SjclChunk) JedErr} {chunks : List SjclChunk} {turns n : ℕ} {rest : List ℕ}
    → Stands whole chunks turns n rest → turns ≡ 0 → whole ≡ Ok chunks
stands_out {whole} {chunks} {turns} {n} {rest} held end =
    held.read ∙ ap (λ k. behind chunks (chunks_from k n rest)) end ∙ ap (behind chunks) (none_left n rest)
    ∙ ap Ok (append-nil chunks)

abbrev pub piece_at : List ℕ → ℕ → Option (List ℕ)
piece_at body len = if nat_le (6 + len) (length body) then Some (take len (drop 6 body)) else None

-- what a test for an empty text tells
pub some_left : (text : List ℕ) (b : Bool) → b ≡ (length text == 0) → b ≡ false → 0 < length text
some_left [] b is some = absurd (let e = sym is ∙ some in cc)
some_left (x ∷ text) b is some = omega arith

pub nothing_left : (text : List ℕ) (b : Bool) → b ≡ (length text == 0) → b ≡ true → text ≡ []
nothing_left [] b is empty = refl
nothing_left (x ∷ text) b is empty =
    let none : length (x ∷ text) ≡ 0 = eqb-true (length (x ∷ text)) 0 (sym is ∙ empty) in
    absurd (omega arith)

pub piece_found : (body : List ℕ) (len : ℕ) → Some len ≡ length_in body → 6 + len ≤ length body
    → Some (take (6 + len - 6) (drop 6 body)) ≡ piece_in body
piece_found body len found fits =
    let same : 6 + len - 6 ≡ len = omega arith in
    let test : nat_le (6 + len) (length body) ≡ true = le-leb (6 + len) (length body) fits in
    let here : piece_at body len ≡ Some (take len (drop 6 body)) = rw test refl in
    rw same (sym here ∙ ap (option_and_then (piece_at body)) found)
