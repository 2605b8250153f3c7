-- A record that is made is valid, and opens under its password.
use Rattle.std.proofs.Common.{◌≡◌, ℕ, ◌≤◌, ◌/◌, List, ◌∷◌, true, nat_le, length, take, drop, Some, Ok, refl, sym, ap, ◌∙◌, subst, arith}
use Rattle.std.proofs.lemmas.Bool.{and_parts}
use Rattle.jed_format.proofs.Sealing.{opened-sealed}
use Rattle.jed_format.specs.Chunk.{chunk_in, is_chunk}
use Rattle.jed_format.specs.Opening.{opened_piece}
use Rattle.jed_format.specs.Write.{is_brief}
use Rattle.jed_format.specs.declared.sjcl_chunk.SjclChunk.{SjclChunk}
use Rattle.jed_sealing.specs.Drawing.{grain_of}
use Rattle.jed_sealing.specs.Sealing.{sealed_piece}
use Rattle.jed_sealing.specs.declared.grain.Grain.{Grain}
use Rattle.jed_sealing.specs.declared.strength.Strength.TheVariants.{OfKey}
use Rattle.jop_base.specs.Id.{IsIdText}
use Rattle.jop_base.specs.Times.{last_time}
use Rattle.new_keys.proofs.Kept.{record_kept}
use Rattle.new_keys.specs.Made.{IsOpenedTo, OpensFor, made_chunk, made_digits, made_members, made_record}
use Rattle.sync_info.specs.Info.{IsKeyRecord}
use Rattle.sync_info.specs.declared.key_record.KeyRecord.{KeyRecord}
use Rattle.sync_info.specs.declared.member.Member.{Member}

pub valid_chunk : (c : SjclChunk) → is_brief c ≡ true → is_chunk c ≡ true
valid_chunk c brief = (and_parts (is_chunk c) (nat_le (length c.ct) 12000000) brief).0

-- the chunk of the digits under these names of what it is made of
pub chunk_made : (password bytes text digits : List ℕ) (grain : Grain) (chunk : SjclChunk)
    → chunk ≡ sealed_piece text OfKey digits grain → text ≡ password → digits ≡ made_digits bytes
    → grain ≡ grain_of (drop 272 bytes) → chunk ≡ made_chunk password bytes
chunk_made password bytes text digits grain chunk is same made drawn =
    is ∙ ap (λ (p : List ℕ). sealed_piece p OfKey digits grain) same
    ∙ ap (λ (d : List ℕ). sealed_piece password OfKey d grain) made
    ∙ ap (λ (g : Grain). sealed_piece password OfKey (made_digits bytes) g) drawn

-- what is read back opens to the digits
pub content_opens : (password bytes content : List ℕ) (chunk : SjclChunk) → chunk ≡ made_chunk password bytes
    → chunk_in content 1 ≡ Ok chunk → IsOpenedTo password (made_digits bytes) content
content_opens password bytes content chunk is reads = record {
  chunk = chunk;
  reads = reads;
  opens = ap (opened_piece password) is
      ∙ opened-sealed password (made_chunk password bytes) (made_digits bytes) (omega arith) refl;
}

pub record_valid : (id content : List ℕ) (now : ℕ) (others : List Member) → IsIdText id → now ≤ last_time
    → others ≡ made_members now
    → IsKeyRecord (record { id = id; content = content; updated = now; others = others })
record_valid id content now others is time are = rw are (record_kept id content now is time)
