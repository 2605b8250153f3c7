-- A master key that is made: 256 random bytes, whose digits are sealed under its owner's password as SJCL
-- does. The other members are those that Joplin's apps know.
use Rattle.std.specs.Prelude.{ℕ, ◌≡◌, List, [], ◌∷◌, codes, decimal, take, drop, Some, Ok}
use Rattle.client.specs.Drawing.{first_id}
use Rattle.hex.specs.Hex.{encode_lower}
use Rattle.jed_format.specs.Chunk.{chunk_in}
use Rattle.jed_format.specs.Opening.{opened_piece}
use Rattle.jed_format.specs.Write.{chunk_text}
use Rattle.jed_format.specs.declared.sjcl_chunk.SjclChunk.{SjclChunk}
use Rattle.jed_sealing.specs.Drawing.{grain_of}
use Rattle.jed_sealing.specs.Sealing.{sealed_piece}
use Rattle.jed_sealing.specs.declared.strength.Strength.TheVariants.{OfKey}
use Rattle.sync_info.specs.declared.key_record.KeyRecord.{KeyRecord}
use Rattle.sync_info.specs.declared.member.Member.{Member}

-- ---- the other members

abbrev pub kept_member : List ℕ → List ℕ → Member
kept_member name json = record { name = name; json = json }

-- those of a record that is made at a time: no checksum, the time, method 4, and who made it
abbrev pub made_members : ℕ → List Member
made_members now =
    kept_member (codes "checksum") (codes "\"\"")
    ∷ kept_member (codes "created_time") (decimal now)
    ∷ kept_member (codes "encryption_method") (decimal 4)
    ∷ kept_member (codes "source_application") (codes "\"jop\"")
    ∷ []

-- ---- the record

-- the bytes that are drawn for a key, as they are
abbrev pub drawn_bytes : List ℕ → List ℕ
drawn_bytes bytes = bytes

-- the digits of the 256 bytes behind those of the id
abbrev pub made_digits : List ℕ → List ℕ
made_digits bytes = encode_lower (take 256 (drop 16 bytes))

-- the digits, sealed by the 24 bytes behind them
abbrev pub made_chunk : List ℕ → List ℕ → SjclChunk
made_chunk password bytes = sealed_piece password OfKey (made_digits bytes) (grain_of (drop 272 bytes))

-- the record of a key that is made at a time, of 296 bytes: 16 for its id, 256 for its digits, 24 for its seal
abbrev pub made_record : List ℕ → ℕ → List ℕ → KeyRecord
made_record password now bytes = record {
  id = first_id bytes;
  content = chunk_text (made_chunk password bytes);
  updated = now;
  others = made_members now;
}

-- ---- what it opens to

-- the content of a record is readable, and opens under the password to these digits
pub record IsOpenedTo (password digits content : List ℕ) : Type 0 where
  pub chunk : SjclChunk
  pub reads : chunk_in content 1 ≡ Ok chunk
  pub opens : opened_piece password chunk ≡ Some digits

-- the record opens under the password
pub record OpensFor (password : List ℕ) (key : KeyRecord) : Type 0 where
  pub digits : List ℕ
  pub opened : IsOpenedTo password digits key.content
