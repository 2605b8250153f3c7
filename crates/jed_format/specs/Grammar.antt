-- The grammar of sealed texts, as a relation of whole texts and what they hold.
use Rattle.std.specs.Prelude.{◌≡◌, ℕ, ◌+◌, true, List, [], ◌∷◌, ◌++◌, length, codes, Some, Ok}
use Rattle.jop_base.specs.Id.{is_id}
use Rattle.jed_format.specs.Chunk.{chunk_in}
use Rattle.jed_format.specs.Jed.{length_in, method_number, is_method}
use Rattle.jed_format.specs.declared.jed.Jed.{Jed}
use Rattle.jed_format.specs.declared.sjcl_chunk.SjclChunk.{SjclChunk}

-- six digits, in either case, and as many bytes behind them as they say
pub record IsPiece (digits piece : List ℕ) : Type 0 where
  pub six : length digits ≡ 6
  pub says : length_in digits ≡ Some (length piece)

-- a piece for each chunk, numbered from n, one behind the other
abbrev pub AreChunks : List ℕ → ℕ → List SjclChunk → Type 0
AreChunks body n [] = body ≡ []
AreChunks body n (c ∷ chunks) =
    (digits : List ℕ) × (piece : List ℕ) × (rest : List ℕ) × (body ≡ digits ++ (piece ++ rest))
    × IsPiece digits piece × (chunk_in piece n ≡ Ok c) × AreChunks rest (n + 1) chunks

-- a mark, the length of the rest of the header, a method, the id of a key, and chunks
pub record IsJedText (text : List ℕ) (jed : Jed) : Type 0 where
  pub size : List ℕ
  pub method : List ℕ
  pub body : List ℕ
  pub whole : text ≡ codes "JED01" ++ (size ++ (method ++ (jed.key ++ body)))
  pub six : length size ≡ 6
  pub says : length_in size ≡ Some 34
  pub two : length method ≡ 2
  pub names : method_number method ≡ Some jed.method
  pub known : is_method jed.method ≡ true
  pub key : is_id jed.key ≡ true
  pub chunks : AreChunks body 1 jed.chunks
