-- Sealed texts (JED01): a header of 45 bytes, and chunks, each behind its length.
use Rattle.std.specs.Prelude.{ℕ, zero, suc, ◌+◌, ◌*◌, Bool, true, false, ◌&&◌, ◌||◌, ◌==◌, nat_le, nat_lt, List, [], ◌∷◌, ◌++◌, length, take, drop, slice_index, bytes_eq, codes, Option, Some, None, Result, Ok, Err, if◌then◌else◌, option_and_then}
use Rattle.std.specs.Option.{option_map_or}
use Rattle.jop_base.specs.Id.{is_id}
use Rattle.jed_text.specs.Hexadecimal.{number_of_two, number_of_four}
use Rattle.jed_format.specs.Chunk.{passing, chunk_in}
use Rattle.jed_format.specs.declared.jed.Jed.{Jed}
use Rattle.jed_format.specs.declared.jed_err.JedErr.{JedErr}
use Rattle.jed_format.specs.declared.jed_err.JedErr.TheVariants.{NotJed, BadChunk, UnsupportedMethod}
use Rattle.jed_format.specs.declared.sjcl_chunk.SjclChunk.{SjclChunk}

-- ---- numbers and ids at the beginning of a text

abbrev pub six_of : Option ℕ → Option ℕ → Option ℕ
six_of (Some high) (Some low) = Some (65536 * high + low)
six_of high low = None

-- the number of the first two hexadecimal digits
abbrev pub method_number : List ℕ → Option ℕ
method_number text =
    if nat_lt (length text) 2 then None
    else number_of_two (slice_index text 0) (slice_index text 1)

-- the number of the first six hexadecimal digits
abbrev pub length_in : List ℕ → Option ℕ
length_in text =
    if nat_lt (length text) 6 then None
    else six_of (number_of_two (slice_index text 0) (slice_index text 1))
    (number_of_four (slice_index text 2) (slice_index text 3)
    (slice_index text 4) (slice_index text 5))

-- the first 32 bytes, if they are the text of an id
abbrev pub key_id_in : List ℕ → Option (List ℕ)
key_id_in text = passing is_id (Some (take 32 text))

-- ---- the header

-- what follows the length of the header has 34 bytes
abbrev pub has_size : List ℕ → Bool
has_size text = option_map_or (λ size. size == 34) (length_in text) false

-- the method and the key, or the place of the first field that isn't as it must be
abbrev pub jed_header : Bool → Bool → Option ℕ → Option (List ℕ) → Result (ℕ × List ℕ) JedErr
jed_header false sized method key = Err (NotJed 0)
jed_header true false method key = Err (NotJed 5)
jed_header true true None key = Err (NotJed 11)
jed_header true true (Some method) None = Err (NotJed 13)
jed_header true true (Some method) (Some key) = Ok (method, key)

abbrev pub header_in : List ℕ → Result (ℕ × List ℕ) JedErr
header_in text =
    jed_header (bytes_eq (take 5 text) (codes "JED01")) (has_size (drop 5 text))
    (method_number (drop 11 text)) (key_id_in (drop 13 text))

abbrev pub is_method : ℕ → Bool
is_method method = nat_le 1 method && nat_le method 5 || method == 7

-- ---- the chunks

-- the piece that a body begins with, behind its length
abbrev pub piece_in : List ℕ → Option (List ℕ)
piece_in body =
    option_and_then
    (λ len. if nat_le (6 + len) (length body) then Some (take len (drop 6 body)) else None)
    (length_in body)

-- the items, and then those that were read
abbrev pub behind : {T : Type 0} → List T → Result (List T) JedErr → Result (List T) JedErr
behind xs (Err e) = Err e
behind xs (Ok ys) = Ok (xs ++ ys)

-- the item, and then those that were read; the refusal of the item comes first
abbrev pub then_more : {T : Type 0} → Result T JedErr → Result (List T) JedErr
    → Result (List T) JedErr
then_more (Err e) more = Err e
then_more (Ok x) more = behind (x ∷ []) more

-- The chunks of a body, numbered from n. The first number bounds the turns: the body's length is
-- always enough.
unfoldable pub chunks_from : ℕ → ℕ → List ℕ → Result (List SjclChunk) JedErr
chunks_from turns n [] = Ok []
chunks_from zero n (b ∷ body) = Ok []
chunks_from (suc turns) n (b ∷ body) =
    option_map_or
    (λ piece. then_more (chunk_in piece n)
    (chunks_from turns (n + 1) (drop (6 + length piece) (b ∷ body))))
    (piece_in (b ∷ body)) (Err (BadChunk n))

abbrev pub chunks_in : List ℕ → Result (List SjclChunk) JedErr
chunks_in body = chunks_from (length body) 1 body

-- ---- the whole

abbrev pub jed : ℕ × List ℕ → Result (List SjclChunk) JedErr → Result Jed JedErr
jed head (Err e) = Err e
jed head (Ok chunks) = Ok (record { method = head.0; key = head.1; chunks = chunks })

abbrev pub under_header : Result (ℕ × List ℕ) JedErr → List ℕ → Result Jed JedErr
under_header (Err e) body = Err e
under_header (Ok head) body =
    if is_method head.0 then jed head (chunks_in body) else Err (UnsupportedMethod head.0)

-- the sealed text that bytes are, or the first refusal
unfoldable pub jed_in : List ℕ → Result Jed JedErr
jed_in text = under_header (header_in text) (drop 45 text)
