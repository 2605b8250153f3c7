-- Opening sealed pieces under a password, as SJCL does: PBKDF2 (RFC 8018) with HMAC-SHA-256, and
-- AES in CCM (NIST SP 800-38C).
use Rattle.std.specs.Prelude.{ℕ, ◌+◌, ◌-◌, ◌/◌, ◌^◌, max, Bool, ◌||◌, ◌==◌, nat_lt, List, [], ◌∷◌, length, take, drop, bytes_eq, Option, Some, None, Result, Ok, Err, if◌then◌else◌, option_and_then}
use Rattle.std.specs.Option.{ok_or}
use Rattle.std.specs.Str.{is_utf8}
use Rattle.aes_ccm.specs.Ccm.{ciphered, tag_of}
use Rattle.aes_ccm.specs.Hmac.{pbkdf2_of}
use Rattle.jed_text.specs.Units.{units_of, text_of}
use Rattle.jed_text.specs.Escape.{unescaped_units}
use Rattle.jed_format.specs.Base64.{decoded}
use Rattle.jed_format.specs.Jed.{behind}
use Rattle.jed_format.specs.declared.jed.Jed.{Jed}
use Rattle.jed_format.specs.declared.jed_err.JedErr.{JedErr}
use Rattle.jed_format.specs.declared.jed_err.JedErr.TheVariants.{BadChunk, BadTag}
use Rattle.jed_format.specs.declared.sjcl_chunk.SjclChunk.{SjclChunk}

-- ---- one piece

-- the first bits of what the password gives
abbrev pub key_of_password : List ℕ → SjclChunk → List ℕ
key_of_password password c = take (c.ks / 8) (pbkdf2_of password c.salt c.iter)

-- how many bytes the length of so many bytes takes, at least 2
abbrev pub length_size : ℕ → ℕ
length_size n = if nat_lt n (256 ^ 2) then 2 else if nat_lt n (256 ^ 3) then 3 else 4

-- the first bytes of an iv, so many that the length of n bytes fits beside them
abbrev pub nonce_of : List ℕ → ℕ → List ℕ
nonce_of iv n = take (15 - max (length_size n) (15 - length iv)) iv

-- how many bytes stand before the tag
abbrev pub sealed_len : SjclChunk → ℕ
sealed_len c = length c.ct - c.ts / 8

abbrev pub sealed_in : SjclChunk → List ℕ
sealed_in c = take (sealed_len c) c.ct

abbrev pub tag_in : SjclChunk → List ℕ
tag_in c = drop (sealed_len c) c.ct

-- what the sealed bytes were, if the tag is right
abbrev pub plain_of : List ℕ → SjclChunk → List ℕ
plain_of password c =
    ciphered (key_of_password password c) (nonce_of c.iv (sealed_len c)) (sealed_in c)

abbrev pub right_tag : List ℕ → SjclChunk → List ℕ → List ℕ
right_tag password c plain =
    tag_of (key_of_password password c) (nonce_of c.iv (sealed_len c)) [] plain (c.ts / 8)

-- the piece that is sealed, if the tag is right
unfoldable pub opened_piece : List ℕ → SjclChunk → Option (List ℕ)
opened_piece password c =
    if bytes_eq (tag_in c) (right_tag password c (plain_of password c))
    then Some (plain_of password c) else None

-- ---- all pieces

-- what a piece gives, as chunk n
abbrev pub part : (List ℕ → Option (List ℕ)) → ℕ → Option (List ℕ)
    → Result (List ℕ) JedErr
part read n None = Err (BadTag n)
part read n (Some bytes) = ok_or (read bytes) (BadChunk n)

-- what a piece gives, and then what the others give
abbrev pub then_joined : Result (List ℕ) JedErr → Result (List ℕ) JedErr
    → Result (List ℕ) JedErr
then_joined (Err e) more = Err e
then_joined (Ok xs) more = behind xs more

-- what all give, one behind the other, numbered from n
unfoldable pub joined_pieces : (List ℕ → Option (List ℕ)) → List ℕ → ℕ → List SjclChunk
    → Result (List ℕ) JedErr
joined_pieces read password n [] = Ok []
joined_pieces read password n (c ∷ chunks) =
    then_joined (part read n (opened_piece password c)) (joined_pieces read password (n + 1) chunks)

-- ---- texts and blobs

-- the pieces are escaped
abbrev pub is_escaped : ℕ → Bool
is_escaped method = method == 5 || method == 7

-- the units of a text under a method
abbrev pub units_under : ℕ → List ℕ → List ℕ
units_under method text =
    if is_escaped method then unescaped_units (units_of text) else units_of text

-- the units that a piece writes, if it is UTF-8
abbrev pub piece_units : ℕ → List ℕ → Option (List ℕ)
piece_units method bytes = if is_utf8 bytes then Some (units_under method bytes) else None

-- the bytes whose base64 a piece writes
abbrev pub piece_bytes : ℕ → List ℕ → Option (List ℕ)
piece_bytes method bytes =
    option_and_then (λ units. decoded (text_of units)) (piece_units method bytes)

abbrev pub text_by : Result (List ℕ) JedErr → Result (List ℕ) JedErr
text_by (Err e) = Err e
text_by (Ok units) = Ok (text_of units)

-- what a sealed text opens to under the password, or the first refusal
unfoldable pub opened_text : List ℕ → Jed → Result (List ℕ) JedErr
opened_text password jed = text_by (joined_pieces (piece_units jed.method) password 1 jed.chunks)

-- what a sealed blob opens to
unfoldable pub blob_in : List ℕ → Jed → Result (List ℕ) JedErr
blob_in password jed = joined_pieces (piece_bytes jed.method) password 1 jed.chunks
