-- What was sealed piece by piece opens again, and may be written.
use Rattle.std.proofs.Common.{◌≡◌, ℕ, ◌*◌, ◌<◌, true, nat_le, List, [], ◌∷◌, length, take, drop, refl, sym, subst, arith, length-drop}
use Rattle.std.specs.List.{All, AllByRecursion}
use Rattle.std.specs.Str.{IsUtf8}
use Rattle.std.proofs.lemmas.Bool.{and_parts}
use Rattle.std.proofs.lemmas.List.{length-take-le}
use Rattle.std.proofs.lemmas.List.Elements.{All-cons, All-nil}
use Rattle.jed_format.proofs.Lists.{all_by}
use Rattle.jed_format.specs.Chunk.{is_chunk}
use Rattle.jed_format.specs.Opening.{nonce_of}
use Rattle.jed_format.specs.Sealed.{AreSealed, IsSealedText}
use Rattle.jed_format.specs.Write.{IsBrief, is_brief}
use Rattle.jed_format.specs.declared.jed.Jed.{Jed}
use Rattle.jed_format.specs.declared.sjcl_chunk.SjclChunk.{SjclChunk}
use Rattle.jed_sealing.proofs.OnePiece.{brief_piece}
use Rattle.jed_sealing.proofs.Short.{short_pieces}
use Rattle.jed_sealing.specs.Drawing.{grain_of}
use Rattle.jed_sealing.specs.Sealing.{key_under, sealed_piece, sealed_pieces}
use Rattle.jed_text.specs.Escape.{pieces_of}
use Rattle.jed_sealing.specs.declared.strength.Strength.TheVariants.{OfText}

-- each chunk holds the piece at its place
pub are_sealed : (digits : List ℕ) (pieces : List (List ℕ)) (bytes : List ℕ)
    → AreSealed digits (sealed_pieces digits pieces bytes) pieces
unfolding sealed_pieces
are_sealed digits [] bytes = tt
are_sealed digits (piece ∷ pieces) bytes = (refl, are_sealed digits pieces (drop 24 bytes))

abbrev pub ShortPiece : List ℕ → Type 0
ShortPiece piece = length piece < 65536

abbrev pub BriefChunk : SjclChunk → Type 0
BriefChunk c = is_brief c ≡ true

brief_by : (digits : List ℕ) (pieces : List (List ℕ)) (bytes : List ℕ) → length bytes ≡ 24 * length pieces
    → AllByRecursion ShortPiece pieces → AllByRecursion BriefChunk (sealed_pieces digits pieces bytes)
unfolding sealed_pieces
brief_by digits [] bytes long short = tt
brief_by digits (piece ∷ pieces) bytes long short =
    let iv : length (take 16 bytes) ≡ 16 = length-take-le 16 bytes (omega arith) in
    let salt : length (take 8 (drop 16 bytes)) ≡ 8 =
    length-take-le 8 (drop 16 bytes) (omega (arith, length-drop 16 bytes)) in (
      brief_piece OfText piece (key_under digits (grain_of bytes).salt OfText) (nonce_of (grain_of bytes).iv (length piece))
          (sealed_piece digits OfText piece (grain_of bytes)).ct (grain_of bytes) (sealed_piece digits OfText piece (grain_of bytes))
          refl refl iv salt short.0,
      brief_by digits pieces (drop 24 bytes) (omega (arith, length-drop 24 bytes)) short.1,
    )

-- each chunk is short
pub brief_pieces : (digits : List ℕ) (pieces : List (List ℕ)) (bytes : List ℕ) → length bytes ≡ 24 * length pieces
    → All ShortPiece pieces → AllByRecursion BriefChunk (sealed_pieces digits pieces bytes)
brief_pieces digits pieces bytes long short = brief_by digits pieces bytes long (all_by ShortPiece pieces short)

pub chunks_valid : (chunks : List SjclChunk) → AllByRecursion BriefChunk chunks
    → AllByRecursion (λ c. is_chunk c ≡ true) chunks
chunks_valid [] brief = tt
chunks_valid (c ∷ chunks) brief =
    ((and_parts (is_chunk c) (nat_le (length c.ct) 12000000) brief.0).0, chunks_valid chunks brief.1)

pub by_index : (chunks : List SjclChunk) → AllByRecursion BriefChunk chunks → All BriefChunk chunks
by_index [] brief = All-nil BriefChunk
by_index (c ∷ chunks) brief = All-cons BriefChunk c chunks brief.0 (by_index chunks brief.1)

-- ---- a text

abbrev pub of_chunks : List ℕ → List SjclChunk → Jed
of_chunks key chunks = record { method = 5; key = key; chunks = chunks }

abbrev pub ValidChunk : SjclChunk → Type 0
ValidChunk c = is_chunk c ≡ true

pub text_sealed : (key digits text : List ℕ) (pieces : List (List ℕ)) (chunks : List SjclChunk) (bytes : List ℕ)
    → pieces ≡ pieces_of text → IsUtf8 text → length bytes ≡ 24 * length pieces
    → chunks ≡ sealed_pieces digits pieces bytes → IsSealedText digits text (of_chunks key chunks)
text_sealed key digits text pieces chunks bytes are utf8 long made =
    let Short : List (List ℕ) → Type 0 = All ShortPiece in
    let Valid : List SjclChunk → Type 0 = AllByRecursion ValidChunk in
    let short : All ShortPiece pieces = subst Short (sym are) (short_pieces text) in
    let brief = brief_pieces digits pieces bytes long short in
    record {
      escaped = refl;
      utf8 = utf8;
      valid = subst Valid (sym made) (chunks_valid (sealed_pieces digits pieces bytes) brief);
      sealed = subst (AreSealed digits chunks) are
          (subst (λ (cs : List SjclChunk). AreSealed digits cs pieces) (sym made) (are_sealed digits pieces bytes));
    }

pub pieces_brief : (key digits : List ℕ) (pieces : List (List ℕ)) (chunks : List SjclChunk) (bytes : List ℕ)
    → All ShortPiece pieces → length bytes ≡ 24 * length pieces → chunks ≡ sealed_pieces digits pieces bytes
    → IsBrief (of_chunks key chunks)
pieces_brief key digits pieces chunks bytes short long made =
    let Brief : List SjclChunk → Type 0 = All BriefChunk in
    record {
      method = refl;
      chunks = subst Brief (sym made)
          (by_index (sealed_pieces digits pieces bytes) (brief_pieces digits pieces bytes long short));
    }
