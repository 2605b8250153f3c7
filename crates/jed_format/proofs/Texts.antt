-- A chunk's text is read back.
use Rattle.std.proofs.Common.{◌≡◌, ℕ, ◌<◌, ◌≤◌, ◌^◌, Bool, true, ◌&&◌, List, [], ◌∷◌, ◌++◌, Option, Some, Ok, Err, option_and_then, codes, decimal, refl, sym, ap, subst, ◌∙◌, arith, nat_lt, append_assoc, append-nil}
use Rattle.std.specs.Option.{option_map_or}
use Rattle.std.specs.Str.{IsAscii, IsUtf8}
use Rattle.std.proofs.lemmas.Fmt.{IsAscii-decimal, decimal_digit}
use Rattle.std.proofs.lemmas.Bool.{and_parts, ltb-true}
use Rattle.std.proofs.lemmas.Str.{IsUtf8-append, IsUtf8-from_ascii, is_utf8-from_IsUtf8}
use Rattle.std.proofs.lemmas.Str.Ascii.{IsAscii-nil}
use Rattle.json.specs.Json as json
use Rattle.json.specs.Json.{Json, if_last}
use Rattle.json.specs.Token.{Token}
use Rattle.json.specs.Print.{print, print_from, escape_byte, IsNumber}
use Rattle.json.specs.Tree.{json_tokens, depth, HasNumbers}
use Rattle.json.proofs.Printed.Decimals.{IsNumber-decimal}
use Rattle.json.proofs.Printed.Tokens.{tokens-print}
use Rattle.json.proofs.Printed.Trees.{value-json_tokens, ArePrintable-json_tokens}
use Rattle.serde_json.specs.Data.{Data, unsigned, number, string, object, no_members, put}
use Rattle.serde_json.specs.Read.{read, of_json, number_of, max_depth}
use Rattle.serde_json.proofs.Numbers.{number_of-decimal}
use Rattle.jed_text.proofs.Ascii.{IsAscii-cons}
use Rattle.jed_format.specs.Base64.{encoded}
use Rattle.jed_format.specs.Chunk.{is_chunk, chunk_of, under_mode, answer_of, json_value, chunk_in}
use Rattle.jed_format.specs.Write.{IsSjcl, iv_text, sizes_text, chunk_text}
use Rattle.jed_format.specs.declared.jed_err.JedErr.TheVariants.{BadChunk}
use Rattle.jed_format.specs.declared.sjcl_chunk.SjclChunk.{SjclChunk}
use Rattle.jed_format.proofs.Valid.{limits_of}
use Rattle.jed_format.proofs.Encoded.{decoded-encoded, IsAscii-encoded, escape-encoded}

-- ---- the text is JSON

abbrev json_of : SjclChunk → Json
json_of c =
    json.object (json.member (codes "iv") (json.string (encoded c.iv))
    (json.member (codes "v") (json.number (codes "1"))
    (json.member (codes "iter") (json.number (decimal c.iter))
    (json.member (codes "ks") (json.number (decimal c.ks))
    (json.member (codes "ts") (json.number (decimal c.ts))
    (json.member (codes "mode") (json.string (codes "ccm"))
    (json.member (codes "adata") (json.string [])
    (json.member (codes "cipher") (json.string (codes "aes"))
    (json.member (codes "salt") (json.string (encoded c.salt))
    (json.member (codes "ct") (json.string (encoded c.ct)) json.no_members))))))))))

-- the quotation mark behind a text
marked : (xs ys : List ℕ) → (xs ++ 34 ∷ []) ++ ys ≡ xs ++ 34 ∷ ys
marked xs ys = append_assoc xs (34 ∷ []) ys

grouped : (p e a i b k d t q s f x z : List ℕ)
    → ((p ++ e) ++ ((a ++ i) ++ (b ++ k) ++ (d ++ t)) ++ (q ++ s)) ++ ((f ++ x) ++ z)
    ≡ p ++ (e ++ (a ++ (i ++ (b ++ (k ++ (d ++ (t ++ (q ++ (s ++ (f ++ (x ++ z)))))))))))
grouped p e a i b k d t q s f x z = simp append_assoc

print-json_of : (c : SjclChunk) → IsSjcl c → print (json_tokens (json_of c)) ≡ chunk_text c
unfolding print_from escape_byte chunk_text
print-json_of c is =
    rw (
      escape-encoded c.iv is.iv,
      escape-encoded c.salt is.salt,
      escape-encoded c.ct is.ct,
      marked (encoded c.iv),
      marked (encoded c.salt),
      marked (encoded c.ct),
    )
    (sym (grouped (codes "{\"iv\":\"") (encoded c.iv) (codes "\",\"v\":1,\"iter\":") (decimal c.iter)
    (codes ",\"ks\":") (decimal c.ks) (codes ",\"ts\":") (decimal c.ts)
    (codes ",\"mode\":\"ccm\",\"adata\":\"\",\"cipher\":\"aes\",\"salt\":\"") (encoded c.salt)
    (codes "\",\"ct\":\"") (encoded c.ct) (codes "\"}")))

-- ---- which is read

abbrev whole : Option (Json × List Token) → Option Data
whole o = option_and_then of_json (option_and_then (λ p. if_last p.0 p.1) o)

read-print : (j : Json) → HasNumbers j → depth j ≤ max_depth → read (print (json_tokens j)) ≡ of_json j
read-print j numbers shallow =
    ap (λ ts. whole (json.value max_depth ts))
    (tokens-print (json_tokens j) (ArePrintable-json_tokens j numbers) ∙ sym (append-nil (json_tokens j)))
    ∙ ap whole (value-json_tokens j max_depth [] shallow)

abbrev data_of : SjclChunk → Data
data_of c =
    object (put (codes "ct") (string (encoded c.ct))
    (put (codes "salt") (string (encoded c.salt))
    (put (codes "cipher") (string (codes "aes"))
    (put (codes "adata") (string [])
    (put (codes "mode") (string (codes "ccm"))
    (put (codes "ts") (number (unsigned c.ts))
    (put (codes "ks") (number (unsigned c.ks))
    (put (codes "iter") (number (unsigned c.iter))
    (put (codes "v") (number (unsigned 1))
    (put (codes "iv") (string (encoded c.iv)) no_members))))))))))

-- the numbers are below 2^64
pub record AreSmall (c : SjclChunk) : Type 0 where
  pub iter : c.iter < 2 ^ 64
  pub ks : c.ks < 2 ^ 64
  pub ts : c.ts < 2 ^ 64

number_of-one : number_of (codes "1") ≡ Some (unsigned 1)
number_of-one = ap number_of (sym (decimal_digit 1 (omega arith))) ∙ number_of-decimal 1 (omega arith)

IsNumber-one : IsNumber (codes "1")
IsNumber-one = let P : List ℕ → Type 0 = IsNumber in subst P (decimal_digit 1 (omega arith)) (IsNumber-decimal 1 (omega arith))

of_json-json_of : (c : SjclChunk) → AreSmall c → of_json (json_of c) ≡ Some (data_of c)
of_json-json_of c small =
    rw (number_of-one, number_of-decimal c.iter small.iter, number_of-decimal c.ks small.ks, number_of-decimal c.ts small.ts) refl

numbers : (c : SjclChunk) → AreSmall c → HasNumbers (json_of c)
numbers c small = (
  tt,
  (
    IsNumber-one,
    (
      IsNumber-decimal c.iter small.iter,
      (
        IsNumber-decimal c.ks small.ks,
        (IsNumber-decimal c.ts small.ts, (tt, (tt, (tt, (tt, (tt, tt)))))),
      ),
    ),
  ),
)

-- ---- it is UTF-8

abbrev low : List ℕ → Bool
low [] = true
low (x ∷ xs) = nat_lt x 128 && low xs

IsAscii-low : (xs : List ℕ) → low xs ≡ true → IsAscii xs
IsAscii-low [] h = IsAscii-nil
IsAscii-low (x ∷ xs) h =
    let parts = and_parts (nat_lt x 128) (low xs) h in
    IsAscii-cons x xs (ltb-true x 128 parts.0) (IsAscii-low xs parts.1)

utf8_text : (text : List ℕ) → low text ≡ true → IsUtf8 text
utf8_text text is = IsUtf8-from_ascii text (IsAscii-low text is)

utf8_encoded : (bytes : List ℕ) → IsUtf8 (encoded bytes)
utf8_encoded bytes = IsUtf8-from_ascii (encoded bytes) (IsAscii-encoded bytes)

utf8_decimal : (n : ℕ) → n < 2 ^ 64 → IsUtf8 (decimal n)
utf8_decimal n small = IsUtf8-from_ascii (decimal n) (IsAscii-decimal n small)

utf8_iv : (c : SjclChunk) → IsUtf8 (iv_text c)
utf8_iv c = IsUtf8-append (codes "{\"iv\":\"") (encoded c.iv) (utf8_text (codes "{\"iv\":\"") refl) (utf8_encoded c.iv)

utf8_sizes : (c : SjclChunk) → AreSmall c → IsUtf8 (sizes_text c)
utf8_sizes c small =
    let iter = IsUtf8-append (codes "\",\"v\":1,\"iter\":") (decimal c.iter) (utf8_text (codes "\",\"v\":1,\"iter\":") refl) (utf8_decimal c.iter small.iter) in
    let ks = IsUtf8-append (codes ",\"ks\":") (decimal c.ks) (utf8_text (codes ",\"ks\":") refl) (utf8_decimal c.ks small.ks) in
    let ts = IsUtf8-append (codes ",\"ts\":") (decimal c.ts) (utf8_text (codes ",\"ts\":") refl) (utf8_decimal c.ts small.ts) in
    IsUtf8-append _ _ (IsUtf8-append _ _ iter ks) ts

pub IsUtf8-chunk_text : (c : SjclChunk) → AreSmall c → IsUtf8 (chunk_text c)
unfolding chunk_text
IsUtf8-chunk_text c small =
    let salt = IsUtf8-append (codes ",\"mode\":\"ccm\",\"adata\":\"\",\"cipher\":\"aes\",\"salt\":\"")
    (encoded c.salt) (utf8_text (codes ",\"mode\":\"ccm\",\"adata\":\"\",\"cipher\":\"aes\",\"salt\":\"") refl) (utf8_encoded c.salt) in
    let ct = IsUtf8-append (codes "\",\"ct\":\"" ++ encoded c.ct) (codes "\"}")
    (IsUtf8-append (codes "\",\"ct\":\"") (encoded c.ct) (utf8_text (codes "\",\"ct\":\"") refl) (utf8_encoded c.ct)) (utf8_text (codes "\"}") refl) in
    IsUtf8-append _ _ (IsUtf8-append _ _ (IsUtf8-append _ _ (utf8_iv c) (utf8_sizes c small)) salt) ct

-- ---- and is the chunk

small_of : (c : SjclChunk) → is_chunk c ≡ true → AreSmall c
small_of c valid =
    let limits = limits_of c valid in
    record { iter = omega (arith, limits.few_turns); ks = omega (arith, limits.small_key); ts = omega (arith, limits.small_tag) }

value_of-chunk_text : (c : SjclChunk) → IsSjcl c → json_value (chunk_text c) ≡ Some (data_of c)
value_of-chunk_text c is =
    let small = small_of c is.valid in
    rw (is_utf8-from_IsUtf8 (chunk_text c) (IsUtf8-chunk_text c small))
    (ap read (sym (print-json_of c is)) ∙ read-print (json_of c) (numbers c small) (omega arith) ∙ of_json-json_of c small)

chunk_of-data_of : (c : SjclChunk) → IsSjcl c → chunk_of (data_of c) ≡ Some c
chunk_of-data_of c is =
    let limits = limits_of c is.valid in
    rw (
      decoded-encoded c.iv is.iv,
      decoded-encoded c.salt is.salt,
      decoded-encoded c.ct is.ct,
      limits.is_iter,
      limits.is_key_size,
      limits.is_tag_size,
      is.valid,
    ) refl

pub chunk_in-chunk_text : (c : SjclChunk) (n : ℕ) → IsSjcl c → chunk_in (chunk_text c) n ≡ Ok c
unfolding chunk_in
chunk_in-chunk_text c n is =
    ap (λ o. option_map_or (answer_of n) o (Err (BadChunk n))) (value_of-chunk_text c is)
    ∙ ap (λ o. under_mode n o (Some (codes "ccm"))) (chunk_of-data_of c is)
