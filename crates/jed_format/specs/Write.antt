-- The texts that are written.
use Rattle.std.specs.Prelude.{◌≡◌, ℕ, ◌+◌, ◌/◌, ◌%◌, ◌^◌, ◌<◌, Bool, ◌&&◌, nat_le, nat_lt, true, List, [], ◌∷◌, ◌++◌, length, codes, decimal, if◌then◌else◌}
use Rattle.std.specs.Char.{is_ascii_graphic}
use Rattle.std.specs.List.{flat_map, list_all, All, AllPass}
use Rattle.base64.specs.GeneralPurpose.{IsBytes}
use Rattle.jed_format.specs.Base64.{encoded}
use Rattle.jed_format.specs.Chunk.{is_chunk}
use Rattle.jed_format.specs.declared.jed.Jed.{Jed}
use Rattle.jed_format.specs.declared.sjcl_chunk.SjclChunk.{SjclChunk}

-- ---- a chunk: its members in this order, without spaces

abbrev pub iv_text : SjclChunk → List ℕ
iv_text c = codes "{\"iv\":\"" ++ encoded c.iv

abbrev pub sizes_text : SjclChunk → List ℕ
sizes_text c =
    (codes "\",\"v\":1,\"iter\":" ++ decimal c.iter) ++ (codes ",\"ks\":" ++ decimal c.ks)
    ++ (codes ",\"ts\":" ++ decimal c.ts)

abbrev pub salt_text : SjclChunk → List ℕ
salt_text c =
    codes ",\"mode\":\"ccm\",\"adata\":\"\",\"cipher\":\"aes\",\"salt\":\"" ++ encoded c.salt

abbrev pub ct_text : SjclChunk → List ℕ
ct_text c = codes "\",\"ct\":\"" ++ encoded c.ct ++ codes "\"}"

unfoldable pub chunk_text : SjclChunk → List ℕ
chunk_text c = iv_text c ++ sizes_text c ++ salt_text c ++ ct_text c

-- ---- the whole

-- the lower-case hexadecimal digit of the lowest four bits
abbrev pub digit : ℕ → ℕ
digit n = if nat_lt (n % 16) 10 then 48 + n % 16 else 87 + n % 16

-- six digits of a number
abbrev pub six_digits : ℕ → List ℕ
six_digits n =
    digit (n / 1048576) ∷ digit (n / 65536) ∷ digit (n / 4096) ∷ digit (n / 256)
    ∷ digit (n / 16) ∷ digit n ∷ []

-- a chunk behind its length
abbrev pub framed_chunk : SjclChunk → List ℕ
framed_chunk c = six_digits (length (chunk_text c)) ++ chunk_text c

-- of method 5
unfoldable pub jed_text : Jed → List ℕ
jed_text jed = codes "JED0100002205" ++ jed.key ++ flat_map framed_chunk jed.chunks

-- what may be written: of method 5, each chunk valid and its text short enough for six digits
pub record IsJed (jed : Jed) : Type 0 where
  pub method : jed.method ≡ 5
  pub valid : AllPass is_chunk jed.chunks
  pub short : All (λ c. length (chunk_text c) < 2 ^ 24) jed.chunks

-- whether a chunk is valid, and so short that its text is short enough
abbrev pub is_brief : SjclChunk → Bool
is_brief c = is_chunk c && nat_le (length c.ct) 12000000

-- a text of method 5 whose chunks are all so short
pub record IsBrief (jed : Jed) : Type 0 where
  pub method : jed.method ≡ 5
  pub chunks : AllPass is_brief jed.chunks

-- a valid chunk whose parts are bytes
pub record IsSjcl (c : SjclChunk) : Type 0 where
  pub valid : is_chunk c ≡ true
  pub iv : IsBytes c.iv
  pub salt : IsBytes c.salt
  pub ct : IsBytes c.ct

-- whether each byte is a letter of ASCII that can be seen: no blank, and no line feed
abbrev pub are_visible : List ℕ → Bool
are_visible text = list_all is_ascii_graphic text
