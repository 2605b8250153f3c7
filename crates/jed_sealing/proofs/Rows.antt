-- Pieces that are sealed one after the other.
use Rattle.std.proofs.Common.{◌≡◌, ℕ, ◌+◌, ◌*◌, ◌<◌, ◌≤◌, List, [], ◌∷◌, ◌++◌, length, take, drop, get_or, refl, sym, ap, subst, ◌∙◌, arith, length-drop}
use Rattle.std.proofs.lemmas.List.{drop-append-le, length-append, take-append-le, take_all}
use Rattle.jop_outside.specs.Random.{EntropyNow}
use Rattle.jed_format.proofs.Lists.{take_next}
use Rattle.jed_format.specs.declared.sjcl_chunk.SjclChunk.{SjclChunk}
use Rattle.jed_sealing.proofs.Drawn.{SoFar-append, SoFar-none}
use Rattle.jed_sealing.specs.Drawing.{IsMadeOfDrawn, grain_of}
use Rattle.jed_sealing.specs.Sealing.{sealed_piece, sealed_pieces}
use Rattle.jed_sealing.specs.declared.grain.Grain.{Grain}
use Rattle.jed_sealing.specs.declared.strength.Strength.TheVariants.{OfText}

grain : List ℕ → List ℕ → Grain
grain iv salt = record { iv = iv; salt = salt }

-- the numbers of the first piece are the first bytes
grain_front : (bytes next : List ℕ) → 24 ≤ length bytes → grain_of (bytes ++ next) ≡ grain_of bytes
unfolding grain
grain_front bytes next enough =
    let iv : take 16 (bytes ++ next) ≡ take 16 bytes = take-append-le 16 bytes next (omega arith) in
    let back : drop 16 (bytes ++ next) ≡ drop 16 bytes ++ next = drop-append-le 16 bytes next (omega arith) in
    let front : take 8 (drop 16 bytes ++ next) ≡ take 8 (drop 16 bytes) =
    take-append-le 8 (drop 16 bytes) next (omega (arith, length-drop 16 bytes)) in
    ap (λ (first : List ℕ). grain first (take 8 (drop 16 (bytes ++ next)))) iv
    ∙ ap (λ (last : List ℕ). grain (take 16 bytes) last) (ap (take 8) back ∙ front)

-- one piece more, by the bytes behind the others
pieces_more : (digits : List ℕ) (pieces : List (List ℕ)) (piece bytes next : List ℕ)
    → length bytes ≡ 24 * length pieces
    → sealed_pieces digits (pieces ++ piece ∷ []) (bytes ++ next)
    ≡ sealed_pieces digits pieces bytes ++ sealed_piece digits OfText piece (grain_of next) ∷ []
unfolding sealed_pieces
pieces_more digits [] piece [] next long = refl
pieces_more digits [] piece (b ∷ bytes) next long = absurd (omega arith)
pieces_more digits (p ∷ pieces) piece bytes next long =
    let enough : 24 ≤ length bytes = omega arith in
    let rest : drop 24 (bytes ++ next) ≡ drop 24 bytes ++ next = drop-append-le 24 bytes next enough in
    let more = pieces_more digits pieces piece (drop 24 bytes) next (omega (arith, length-drop 24 bytes)) in
    let all : List (List ℕ) = pieces ++ piece ∷ [] in
    ap (λ (g : Grain). sealed_piece digits OfText p g ∷ sealed_pieces digits all (drop 24 (bytes ++ next)))
    (grain_front bytes next enough)
    ∙ ap (λ (bs : List ℕ). sealed_piece digits OfText p (grain_of bytes) ∷ sealed_pieces digits all bs) rest
    ∙ ap (λ (cs : List SjclChunk). sealed_piece digits OfText p (grain_of bytes) ∷ cs) more

-- ---- the loop

-- these pieces were sealed by the next bytes of the source, which didn't fail
pub record AreSealedSo (digits : List ℕ) (pieces : List (List ℕ)) (old : EntropyNow) (chunks : List SjclChunk)
    (new : EntropyNow) : Type 0 where
  pub drawn : IsMadeOfDrawn (sealed_pieces digits pieces) (24 * length pieces) old.left chunks new.left
  pub stays : new.faults ≡ old.faults

pub none_sealed : (digits : List ℕ) (now : EntropyNow) → AreSealedSo digits [] now [] now
unfolding sealed_pieces
none_sealed digits now = record {
  drawn = record { bytes = []; long = omega arith; given = SoFar-none now.left; is = refl };
  stays = refl;
}

-- a piece more, added
abbrev pub added : List ℕ → List SjclChunk → List ℕ → List ℕ → List SjclChunk
added digits chunks piece bytes = chunks ++ sealed_piece digits OfText piece (grain_of bytes) ∷ []

-- behind others
pub sealed_push : (digits : List ℕ) (first : List (List ℕ)) (piece : List ℕ) (old mid new : EntropyNow)
    (chunks more : List SjclChunk) → AreSealedSo digits first old chunks mid
    → IsMadeOfDrawn (added digits chunks piece) 24 mid.left more new.left → new.faults ≡ mid.faults
    → AreSealedSo digits (first ++ piece ∷ []) old more new
sealed_push digits first piece old mid new chunks more held one stays =
    let made : more ≡ sealed_pieces digits (first ++ piece ∷ []) (held.drawn.bytes ++ one.bytes) =
    one.is ∙ ap (λ (cs : List SjclChunk). added digits cs piece one.bytes) held.drawn.is
    ∙ sym (pieces_more digits first piece held.drawn.bytes one.bytes held.drawn.long) in
    record {
      drawn = record {
        bytes = held.drawn.bytes ++ one.bytes;
        long = omega (
          arith,
          length-append held.drawn.bytes one.bytes,
          length-append first (piece ∷ []),
          held.drawn.long,
          one.long,
        );
        given = SoFar-append old.left mid.left new.left held.drawn.bytes one.bytes held.drawn.given one.given;
        is = made;
      };
      stays = stays ∙ held.stays;
    }

pub sealed_more : (digits : List ℕ) (pieces : List (List ℕ)) (i : ℕ) (piece : List ℕ) (old mid new : EntropyNow)
    (chunks more : List SjclChunk) → i < length pieces → piece ≡ get_or pieces i piece
    → AreSealedSo digits (take i pieces) old chunks mid
    → IsMadeOfDrawn (added digits chunks piece) 24 mid.left more new.left → new.faults ≡ mid.faults
    → AreSealedSo digits (take (i + 1) pieces) old more new
sealed_more digits pieces i piece old mid new chunks more lt is held one stays =
    let P : List (List ℕ) → Type 0 = λ (ps : List (List ℕ)). AreSealedSo digits ps old more new in
    subst P (sym (take_next pieces i piece lt is))
    (sealed_push digits (take i pieces) piece old mid new chunks more held one stays)

pub sealed_all : (digits : List ℕ) (pieces : List (List ℕ)) (i : ℕ) (old new : EntropyNow) (chunks : List SjclChunk)
    → AreSealedSo digits (take i pieces) old chunks new → length pieces ≤ i → AreSealedSo digits pieces old chunks new
sealed_all digits pieces i old new chunks held end =
    let P : List (List ℕ) → Type 0 = λ (ps : List (List ℕ)). AreSealedSo digits ps old chunks new in
    subst P (take_all i pieces end) held
