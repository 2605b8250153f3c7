-- How long a chunk's text is.
use Rattle.std.proofs.Common.{◌≡◌, ℕ, ◌+◌, ◌*◌, ◌/◌, ◌<◌, ◌≤◌, ◌^◌, true, Bool, IsTrue, nat_le, get_or, List, length, replicate, ◌↔◌, subst, decimal, sym, arith, length-append}
use Rattle.std.proofs.lemmas.Bool.{and_parts, leb-true}
use Rattle.std.proofs.lemmas.Fmt.{length-decimal-le}
use Rattle.std.proofs.lemmas.List.{length-replicate}
use Rattle.std.specs.List.{AllPass}
use Rattle.base64.specs.Rfc4648.{encode_symbols, padding_len}
use Rattle.base64.proofs.RoundTrip.{length-encode_symbols}
use Rattle.jed_format.specs.Base64.{encoded}
use Rattle.jed_format.specs.Chunk.{is_chunk}
use Rattle.jed_format.specs.Write.{chunk_text, is_brief, IsBrief, IsJed}
use Rattle.jed_format.specs.declared.jed.Jed.{Jed}
use Rattle.jed_format.specs.declared.sjcl_chunk.SjclChunk.{SjclChunk}
use Rattle.jed_format.proofs.Encoded.{symbols}
use Rattle.jed_format.proofs.Valid.{limits_of}

-- four letters for three bytes, the last ones begun
pub length-encoded : (bytes : List ℕ) → 3 * length (encoded bytes) ≤ 4 * length bytes + 8
unfolding encoded
length-encoded bytes =
    let n : ℕ = length bytes in
    let sized : length (encode_symbols symbols bytes) ≡ (4 * n + 2) / 3 = length-encode_symbols symbols bytes in
    let padding : length {A = ℕ} (replicate (padding_len n) 61) ≡ padding_len n = length-replicate (padding_len n) 61 in
    omega (arith, length-append (encode_symbols symbols bytes) (replicate (padding_len n) 61), sized, padding)

pub length-chunk_text : (c : SjclChunk) → is_chunk c ≡ true → length c.ct ≤ 12000000 → length (chunk_text c) < 2 ^ 24
unfolding chunk_text
length-chunk_text c valid brief =
    let limits = limits_of c valid in
    let iter : length (decimal c.iter) ≤ 6 = length-decimal-le 6 c.iter (omega arith) (omega (arith, limits.few_turns)) (omega (arith, limits.few_turns)) in
    let ks : length (decimal c.ks) ≤ 6 = length-decimal-le 6 c.ks (omega arith) (omega (arith, limits.small_key)) (omega (arith, limits.small_key)) in
    let ts : length (decimal c.ts) ≤ 6 = length-decimal-le 6 c.ts (omega arith) (omega (arith, limits.small_tag)) (omega (arith, limits.small_tag)) in
    let iv = length-encoded c.iv in
    let salt = length-encoded c.salt in
    let ct = length-encoded c.ct in
    simp length-append (omega (arith, limits.brief_iv, limits.brief_salt))

-- ---- a whole text

pub IsJed-IsBrief : (j : Jed) → IsBrief j → IsJed j
IsJed-IsBrief j brief =
    let at = λ (k : ℕ) (d : SjclChunk). get_or j.chunks k d in
    let parts = λ (c : SjclChunk) (is : is_brief c ≡ true). and_parts (is_chunk c) (nat_le (length c.ct) 12000000) is in
    record {
      method = brief.method;
      valid = λ k d lt. (parts (at k d) (brief.chunks k d lt)).0;
      short = λ k d lt. length-chunk_text (at k d) (parts (at k d) (brief.chunks k d lt)).0
          (leb-true (length (at k d).ct) 12000000 (parts (at k d) (brief.chunks k d lt)).1);
    }

pub IsBrief-chunks : (j : Jed) (chunks : List SjclChunk) (r : Bool) → chunks ≡ j.chunks → j.method ≡ 5
    → (IsTrue r ↔ AllPass is_brief chunks) → (IsTrue r ↔ IsBrief j)
IsBrief-chunks j chunks r same method h =
    let P : List SjclChunk → Type 0 = AllPass is_brief in
    (λ t. record { method = method; chunks = subst P same (h.0 t) }, λ b. h.1 (subst P (sym same) b.chunks))
