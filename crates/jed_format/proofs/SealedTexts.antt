-- A text or a blob that was sealed under a password is opened under it.
use Rattle.std.proofs.Common.{◌≡◌, ℕ, suc, ◌+◌, ◌/◌, ◌<◌, true, List, [], ◌∷◌, length, Option, Some, Ok, option_and_then, map, refl, sym, ap, subst, ◌∙◌, arith}
use Rattle.std.specs.List.{flat_map, AllByRecursion}
use Rattle.std.specs.Option.{ok_or}
use Rattle.std.specs.Str.{IsAscii, IsUtf8, is_utf8}
use Rattle.std.proofs.lemmas.Str.{IsUtf8-from_ascii, is_utf8-from_IsUtf8}
use Rattle.base64.specs.GeneralPurpose.{IsBytes}
use Rattle.jed_text.specs.Units.{units_of, text_of}
use Rattle.jed_text.specs.Escape.{escaped_units, unescaped_units, pieces_of}
use Rattle.jed_text.proofs.Ascii.{units_of-IsAscii, IsAscii-escaped, AllAscii-escaped_pieces}
use Rattle.jed_text.proofs.Spelled.{pieces_spell, text_of-units_of}
use Rattle.jed_text.proofs.UnescapeSteps.{AreUnits, unescaped-escaped}
use Rattle.jed_format.specs.Base64.{decoded, encoded}
use Rattle.jed_format.specs.Chunk.{is_chunk}
use Rattle.jed_format.specs.Jed.{behind}
use Rattle.jed_format.specs.Opening.{is_escaped, piece_units, piece_bytes, part, opened_piece, then_joined, joined_pieces, text_by, opened_text, blob_in}
use Rattle.jed_format.specs.Sealed.{AreSealed, blob_pieces}
use Rattle.jed_format.specs.declared.jed.Jed.{Jed}
use Rattle.jed_format.specs.declared.jed_err.JedErr.TheVariants.{BadChunk}
use Rattle.jed_format.specs.declared.sjcl_chunk.SjclChunk.{SjclChunk}
use Rattle.jed_format.proofs.Encoded.{decoded-encoded, IsAscii-encoded}
use Rattle.jed_format.proofs.Joined.{joined_one, joined_none}
use Rattle.jed_format.proofs.Sealing.{opened-sealed, tag_len-le}
use Rattle.jed_format.proofs.Valid.{limits_of}

-- what pieces give that were made of sources, where each gives what f makes of its source
all_joined : (read : List ℕ → Option (List ℕ)) (g f : List ℕ → List ℕ) (password : List ℕ) (n : ℕ)
    (chunks : List SjclChunk) (sources : List (List ℕ))
    → AllByRecursion (λ c. is_chunk c ≡ true) chunks → AreSealed password chunks (map g sources)
    → AllByRecursion (λ s. read (g s) ≡ Some (f s)) sources
    → joined_pieces read password n chunks ≡ Ok (flat_map f sources)
all_joined read g f password n [] [] valid sealed each = joined_none read password n
all_joined read g f password n [] (s ∷ sources) valid sealed each = absurd sealed
all_joined read g f password n (c ∷ chunks) [] valid sealed each = absurd sealed
all_joined read g f password n (c ∷ chunks) (s ∷ sources) valid sealed each =
    let short = tag_len-le c.ts (limits_of c valid.0).is_tag_size in
    let opens : opened_piece password c ≡ Some (g s) =
    opened-sealed password c (g s) short sealed.0 in
    let more = joined_pieces read password (n + 1) chunks in
    joined_one read password n c chunks
    ∙ ap (λ o. then_joined (part read n o) more) opens
    ∙ ap (λ o. then_joined (ok_or o (BadChunk n)) more) each.0
    ∙ ap (behind (f s)) (all_joined read g f password (n + 1) chunks sources valid.1 sealed.1 each.1)

map_same : (pieces : List (List ℕ)) → map (λ (p : List ℕ). p) pieces ≡ pieces
map_same [] = refl
map_same (p ∷ pieces) = ap (λ ps. p ∷ ps) (map_same pieces)

-- ---- texts

units_in-IsAscii : (method : ℕ) (piece : List ℕ) → is_escaped method ≡ true → IsAscii piece
    → piece_units method piece ≡ Some (unescaped_units piece)
units_in-IsAscii method piece is ascii =
    let utf8 : is_utf8 piece ≡ true = is_utf8-from_IsUtf8 piece (IsUtf8-from_ascii piece ascii) in
    rw (utf8, is) (ap (λ (us : List ℕ). Some (unescaped_units us)) (units_of-IsAscii piece ascii))

each_unescaped : (method : ℕ) (pieces : List (List ℕ)) → is_escaped method ≡ true
    → AllByRecursion IsAscii pieces → AllByRecursion (λ p. piece_units method p ≡ Some (unescaped_units p)) pieces
each_unescaped method [] is held = tt
each_unescaped method (p ∷ pieces) is held =
    (units_in-IsAscii method p is held.0, each_unescaped method pieces is held.1)

pub text_in-sealed : (password text : List ℕ) (j : Jed) → is_escaped j.method ≡ true → IsUtf8 text
    → AllByRecursion (λ c. is_chunk c ≡ true) j.chunks → AreSealed password j.chunks (pieces_of text)
    → opened_text password j ≡ Ok text
unfolding opened_text
text_in-sealed password text j is utf8 valid sealed =
    let pieces : List (List ℕ) = pieces_of text in
    let ascii = AllAscii-escaped_pieces (units_of text) ((length (units_of text) + 4999) / 5000) in
    let held : AreSealed password j.chunks (map (λ (p : List ℕ). p) pieces) =
    subst (AreSealed password j.chunks) (sym (map_same pieces)) sealed in
    ap text_by (all_joined (piece_units j.method) (λ (p : List ℕ). p) unescaped_units password 1 j.chunks pieces valid held
    (each_unescaped j.method pieces is ascii))
    ∙ ap Ok (pieces_spell text utf8)

-- ---- blobs

are_units : (xs : List ℕ) → IsAscii xs → AreUnits xs
are_units [] h = tt
are_units (x ∷ xs) h = (let low : x < 128 = h 0 in omega arith, are_units xs (λ i. h (suc i)))

bytes_in-escaped : (method : ℕ) (p : List ℕ) → is_escaped method ≡ true → IsBytes p
    → piece_bytes method (escaped_units (encoded p)) ≡ Some p
bytes_in-escaped method p is bytes =
    let text : List ℕ = encoded p in
    let ascii = IsAscii-encoded p in
    let back : unescaped_units (escaped_units text) ≡ text =
    unescaped-escaped text (are_units text ascii) in
    let spelled : text_of text ≡ text =
    ap text_of (sym (units_of-IsAscii text ascii)) ∙ text_of-units_of text (IsUtf8-from_ascii text ascii) in
    ap (option_and_then (λ units. decoded (text_of units)))
    (units_in-IsAscii method (escaped_units text) is (IsAscii-escaped text))
    ∙ ap (λ (us : List ℕ). decoded (text_of us)) back ∙ ap decoded spelled ∙ decoded-encoded p bytes

each_decoded : (method : ℕ) (parts : List (List ℕ)) → is_escaped method ≡ true
    → AllByRecursion IsBytes parts
    → AllByRecursion (λ p. piece_bytes method (escaped_units (encoded p)) ≡ Some p) parts
each_decoded method [] is held = tt
each_decoded method (p ∷ parts) is held =
    (bytes_in-escaped method p is held.0, each_decoded method parts is held.1)

pub blob_in-sealed : (password : List ℕ) (parts : List (List ℕ)) (j : Jed) → is_escaped j.method ≡ true
    → AllByRecursion IsBytes parts → AllByRecursion (λ c. is_chunk c ≡ true) j.chunks
    → AreSealed password j.chunks (blob_pieces parts)
    → blob_in password j ≡ Ok (flat_map (λ p. p) parts)
unfolding blob_in
blob_in-sealed password parts j is bytes valid sealed =
    all_joined (piece_bytes j.method) (λ p. escaped_units (encoded p)) (λ (p : List ℕ). p) password 1 j.chunks parts valid sealed
    (each_decoded j.method parts is bytes)
