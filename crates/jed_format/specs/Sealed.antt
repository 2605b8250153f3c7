-- Pieces that were sealed under a password.
use Rattle.std.specs.Prelude.{◌≡◌, ℕ, ◌/◌, true, List, [], ◌∷◌, ◌++◌, length, map}
use Rattle.std.specs.List.{AllByRecursion}
use Rattle.std.specs.Str.{IsUtf8}
use Rattle.aes_ccm.specs.Ccm.{ciphered, tag_of}
use Rattle.base64.specs.GeneralPurpose.{IsBytes}
use Rattle.jed_text.specs.Escape.{escaped_units, pieces_of}
use Rattle.jed_format.specs.Base64.{encoded}
use Rattle.jed_format.specs.Chunk.{is_chunk}
use Rattle.jed_format.specs.Opening.{key_of_password, nonce_of, is_escaped}
use Rattle.jed_format.specs.declared.jed.Jed.{Jed}
use Rattle.jed_format.specs.declared.sjcl_chunk.SjclChunk.{SjclChunk}

-- the chunk holds the piece, enciphered, and its tag
abbrev pub IsSealed : List ℕ → SjclChunk → List ℕ → Type 0
IsSealed password c piece =
    c.ct ≡ ciphered (key_of_password password c) (nonce_of c.iv (length piece)) piece
    ++ tag_of (key_of_password password c) (nonce_of c.iv (length piece)) [] piece (c.ts / 8)

-- each chunk holds the piece at its place
abbrev pub AreSealed : List ℕ → List SjclChunk → List (List ℕ) → Type 0
AreSealed password [] [] = Unit {0}
AreSealed password [] (piece ∷ pieces) = ⊥
AreSealed password (c ∷ chunks) [] = ⊥
AreSealed password (c ∷ chunks) (piece ∷ pieces) =
    IsSealed password c piece × AreSealed password chunks pieces

-- the pieces of a blob, each as base64, escaped
abbrev pub blob_pieces : List (List ℕ) → List (List ℕ)
blob_pieces parts = map (λ part. escaped_units (encoded part)) parts

-- a text, in pieces of 5,000 units, each escaped and sealed under the password
pub record IsSealedText (password text : List ℕ) (jed : Jed) : Type 0 where
  pub escaped : is_escaped jed.method ≡ true
  pub utf8 : IsUtf8 text
  pub valid : AllByRecursion (λ c. is_chunk c ≡ true) jed.chunks
  pub sealed : AreSealed password jed.chunks (pieces_of text)

-- a blob, in any parts, each as base64, escaped and sealed under the password
pub record IsSealedBlob (password : List ℕ) (parts : List (List ℕ)) (jed : Jed) : Type 0 where
  pub escaped : is_escaped jed.method ≡ true
  pub bytes : AllByRecursion IsBytes parts
  pub valid : AllByRecursion (λ c. is_chunk c ≡ true) jed.chunks
  pub sealed : AreSealed password jed.chunks (blob_pieces parts)
