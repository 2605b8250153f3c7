-- Pieces, texts and blobs that are sealed under a password, as SJCL does: each piece by numbers of its own.
use Rattle.std.specs.Prelude.{ℕ, zero, suc, ◌+◌, ◌*◌, ◌/◌, List, [], ◌∷◌, ◌++◌, length, take, drop}
use Rattle.aes_ccm.specs.Ccm.{ciphered, tag_of}
use Rattle.aes_ccm.specs.Hmac.{pbkdf2_of}
use Rattle.jed_text.specs.Escape.{pieces_of}
use Rattle.jed_format.specs.Opening.{nonce_of}
use Rattle.jed_format.specs.Sealed.{blob_pieces}
use Rattle.jed_format.specs.declared.jed.Jed.{Jed}
use Rattle.jed_format.specs.declared.sjcl_chunk.SjclChunk.{SjclChunk}
use Rattle.jed_sealing.specs.Drawing.{grain_of}
use Rattle.jed_sealing.specs.declared.grain.Grain.{Grain}
use Rattle.jed_sealing.specs.declared.strength.Strength.{Strength}
use Rattle.jed_sealing.specs.declared.strength.Strength.TheVariants.{OfText, OfKey}

-- ---- one piece

-- how many turns the derivation of a piece's key takes
abbrev pub turns_of : Strength → ℕ
turns_of OfText = 101
turns_of OfKey = 10000

-- how many bits the key of a piece has
abbrev pub bits_of : Strength → ℕ
bits_of OfText = 128
bits_of OfKey = 256

-- the key of a piece
abbrev pub key_under : List ℕ → List ℕ → Strength → List ℕ
key_under password salt strength =
    take (bits_of strength / 8) (pbkdf2_of password salt (turns_of strength))

-- the piece, enciphered under these numbers, and its tag of 64 bits
abbrev pub sealed_piece : List ℕ → Strength → List ℕ → Grain → SjclChunk
sealed_piece password strength piece grain =
    let key = key_under password grain.salt strength in
    let nonce = nonce_of grain.iv (length piece) in
    record {
      iv = grain.iv;
      iter = turns_of strength;
      ks = bits_of strength;
      ts = 64;
      salt = grain.salt;
      ct = ciphered key nonce piece ++ tag_of key nonce [] piece 8;
    }

-- ---- pieces in a row

-- each piece, sealed by the next 24 of these bytes
unfoldable pub sealed_pieces : List ℕ → List (List ℕ) → List ℕ → List SjclChunk
sealed_pieces password [] bytes = []
sealed_pieces password (piece ∷ pieces) bytes =
    sealed_piece password OfText piece (grain_of bytes) ∷ sealed_pieces password pieces (drop 24 bytes)

-- the first n parts of 3,750 bytes
unfoldable pub first_parts : List ℕ → ℕ → List (List ℕ)
first_parts blob zero = []
first_parts blob (suc n) = first_parts blob n ++ take 3750 (drop (3750 * n) blob) ∷ []

-- a blob's parts, the last perhaps shorter
abbrev pub parts_of_blob : List ℕ → List (List ℕ)
parts_of_blob blob = first_parts blob ((length blob + 3749) / 3750)

-- ---- the whole, under the key of an id, whose digits are the password

-- a text, in pieces of 5,000 units
abbrev pub sealed_text : List ℕ → List ℕ → List ℕ → List ℕ → Jed
sealed_text key digits text bytes =
    record { method = 5; key = key; chunks = sealed_pieces digits (pieces_of text) bytes }

-- a blob, in parts of 3,750 bytes, each as base64
abbrev pub sealed_blob : List ℕ → List ℕ → List ℕ → List ℕ → Jed
sealed_blob key digits blob bytes =
    record {
      method = 5;
      key = key;
      chunks = sealed_pieces digits (blob_pieces (parts_of_blob blob)) bytes;
    }
