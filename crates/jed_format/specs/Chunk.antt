-- The chunks of a sealed text: which chunk an object of SJCL's is. The limits are our own.
use Rattle.std.specs.Prelude.{ℕ, ◌+◌, ◌/◌, ◌^◌, Bool, true, false, ◌&&◌, ◌||◌, ◌==◌, nat_le, List, length, bytes_eq, codes, Option, Some, None, Result, Ok, Err, if◌then◌else◌, option_and_then}
use Rattle.std.specs.Option.{option_map_or}
use Rattle.std.specs.Str.{is_utf8}
use Rattle.serde_json.specs.Data.{Data}
use Rattle.serde_json.specs.Find.{get, as_number, as_str, as_u64}
use Rattle.serde_json.specs.Read.{read}
use Rattle.jed_format.specs.Base64.{decoded}
use Rattle.jed_format.specs.declared.jed_err.JedErr.{JedErr}
use Rattle.jed_format.specs.declared.jed_err.JedErr.TheVariants.{BadChunk, UnsupportedMode}
use Rattle.jed_format.specs.declared.sjcl_chunk.SjclChunk.{SjclChunk}

-- ---- valid chunks

abbrev pub is_iv : List ℕ → Bool
is_iv iv = nat_le 7 (length iv) && nat_le (length iv) 64

abbrev pub is_iter : ℕ → Bool
is_iter n = nat_le 1 n && nat_le n 100000

abbrev pub is_key_size : ℕ → Bool
is_key_size n = n == 128 || n == 192 || n == 256

abbrev pub is_tag_size : ℕ → Bool
is_tag_size n = n == 64 || n == 96 || n == 128

abbrev pub is_salt : List ℕ → Bool
is_salt salt = nat_le (length salt) 64

-- a tag of so many bits, and before it at most 2^24 bytes
abbrev pub is_ct : ℕ → List ℕ → Bool
is_ct ts ct = nat_le (ts / 8) (length ct) && nat_le (length ct) (2 ^ 24 + ts / 8)

abbrev pub is_chunk : SjclChunk → Bool
is_chunk chunk =
    is_iv chunk.iv && is_iter chunk.iter && is_key_size chunk.ks && is_tag_size chunk.ts
    && is_salt chunk.salt && is_ct chunk.ts chunk.ct

-- ---- single members

-- what passes the test
abbrev pub passing : {T : Type 0} → (T → Bool) → Option T → Option T
passing test None = None
passing test (Some x) = if test x then Some x else None

abbrev pub string_in : List ℕ → Data → Option (List ℕ)
string_in name json = option_and_then as_str (get name json)

-- a whole number that isn't negative
abbrev pub whole_number : Data → Option ℕ
whole_number value = option_and_then as_u64 (as_number value)

abbrev pub number_in : List ℕ → Data → Option ℕ
number_in name json = option_and_then whole_number (get name json)

-- the bytes of a text of base64
abbrev pub base64_in : List ℕ → Data → Option (List ℕ)
base64_in name json = option_and_then decoded (string_in name json)

-- ---- members that need not be there

abbrev pub is_number_one : Data → Bool
is_number_one value = option_map_or (λ n. n == 1) (whole_number value) false

abbrev pub is_string : List ℕ → Data → Bool
is_string text value = option_map_or (λ s. bytes_eq s text) (as_str value) false

-- each of them that is there is as it must be
abbrev pub fits : Data → Bool
fits json =
    option_map_or is_number_one (get (codes "v") json) true
    && option_map_or (is_string (codes "aes")) (get (codes "cipher") json) true
    && option_map_or (is_string (codes "")) (get (codes "adata") json) true

-- ---- the whole

abbrev pub chunk : Option (List ℕ) → Option ℕ → Option ℕ → Option ℕ → Option (List ℕ)
    → Option (List ℕ) → Option SjclChunk
chunk (Some iv) (Some iter) (Some ks) (Some ts) (Some salt) (Some ct) =
    Some (record { iv = iv; iter = iter; ks = ks; ts = ts; salt = salt; ct = ct })
chunk iv iter ks ts salt ct = None

-- the members that a chunk is made of, if they are there
abbrev pub parts_of : Data → Option SjclChunk
parts_of json =
    chunk (base64_in (codes "iv") json)
    (passing is_iter (number_in (codes "iter") json))
    (passing is_key_size (number_in (codes "ks") json))
    (passing is_tag_size (number_in (codes "ts") json))
    (base64_in (codes "salt") json)
    (base64_in (codes "ct") json)

-- the chunk that an object is, whose members are as they must be
abbrev pub chunk_of : Data → Option SjclChunk
chunk_of json = if fits json then passing is_chunk (parts_of json) else None

-- the JSON value of a text
abbrev pub json_value : List ℕ → Option Data
json_value text = if is_utf8 text then read text else None

-- a chunk under its mode, as chunk n
abbrev pub under_mode : ℕ → Option SjclChunk → Option (List ℕ) → Result SjclChunk JedErr
under_mode n (Some c) (Some mode) =
    if bytes_eq mode (codes "ccm") then Ok c else Err (UnsupportedMode n)
under_mode n None mode = Err (BadChunk n)
under_mode n (Some c) None = Err (BadChunk n)

abbrev pub answer_of : ℕ → Data → Result SjclChunk JedErr
answer_of n json = under_mode n (chunk_of json) (string_in (codes "mode") json)

-- the chunk of a text, or the refusal of chunk n
unfoldable pub chunk_in : List ℕ → ℕ → Result SjclChunk JedErr
chunk_in text n = option_map_or (answer_of n) (json_value text) (Err (BadChunk n))
