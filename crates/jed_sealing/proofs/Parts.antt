-- A blob in parts.
use Rattle.std.proofs.Common.{◌≡◌, ℕ, zero, suc, ◌+◌, ◌-◌, ◌*◌, ◌/◌, ◌<◌, ◌≤◌, List, [], ◌∷◌, ◌++◌, length, take, drop, min, Option, Ok, refl, sym, ap, subst, ◌∙◌, arith, length-drop}
use Rattle.std.specs.List.{All, AllByRecursion, flat_map}
use Rattle.std.proofs.lemmas.List.{flat_map_more, length-take, map-append, take_all, take_min}
use Rattle.base64.specs.GeneralPurpose.{IsBytes}
use Rattle.std.proofs.lemmas.List.Elements.{All-append, All-cons, All-nil}
use Rattle.std.proofs.Math.Nat.{min-le_left}
use Rattle.jop_outside.specs.Random.{EntropyNow}
use Rattle.jed_format.proofs.Encoded.{IsAscii-encoded}
use Rattle.jed_format.proofs.Lengths.{length-encoded}
use Rattle.jed_format.proofs.SealedTexts.{blob_in-sealed}
use Rattle.jed_format.specs.Base64.{encoded}
use Rattle.jed_format.specs.Opening.{blob_in}
use Rattle.jed_format.specs.Sealed.{AreSealed, blob_pieces}
use Rattle.jed_format.specs.declared.sjcl_chunk.SjclChunk.{SjclChunk}
use Rattle.jed_text.proofs.Ascii.{units_of-IsAscii}
use Rattle.jed_text.proofs.Spelled.{take_further}
use Rattle.jed_text.specs.Escape.{escaped_units}
use Rattle.jed_text.specs.Units.{units_of}
use Rattle.jed_sealing.proofs.Rows.{AreSealedSo, added, none_sealed, sealed_push}
use Rattle.jed_sealing.proofs.Short.{length-escaped}
use Rattle.jed_sealing.proofs.Whole.{ShortPiece, ValidChunk, are_sealed, brief_pieces, chunks_valid, of_chunks}
use Rattle.jed_sealing.specs.Drawing.{IsMadeOfDrawn}
use Rattle.jed_sealing.specs.Sealing.{first_parts, parts_of_blob, sealed_pieces}

-- base64 is its own units
pub units_of_encoded : (part : List ℕ) → units_of (encoded part) ≡ encoded part
units_of_encoded part = units_of-IsAscii (encoded part) (IsAscii-encoded part)

abbrev pub part_piece : List ℕ → List ℕ
part_piece part = escaped_units (encoded part)

pub part_short : (part : List ℕ) → length part ≤ 3750 → length (part_piece part) < 65536
part_short part few = omega (arith, length-escaped (encoded part), length-encoded part)

-- ---- the loop

pub no_parts : (digits blob : List ℕ) (now : EntropyNow) → AreSealedSo digits (blob_pieces (first_parts blob 0)) now [] now
unfolding first_parts
no_parts digits blob now = none_sealed digits now

pub parts_more : (digits blob part : List ℕ) (n e : ℕ) (old mid new : EntropyNow) (chunks more : List SjclChunk)
    → e ≡ min (3750 * n + 3750) (length blob) → 3750 * n ≤ length blob
    → part ≡ take (e - 3750 * n) (drop (3750 * n) blob)
    → AreSealedSo digits (blob_pieces (first_parts blob n)) old chunks mid
    → IsMadeOfDrawn (added digits chunks (part_piece part)) 24 mid.left more new.left → new.faults ≡ mid.faults
    → AreSealedSo digits (blob_pieces (first_parts blob (n + 1))) old more new
unfolding first_parts
parts_more digits blob part n e old mid new chunks more cut fits is held one stays =
    let next : n + 1 ≡ suc n = omega arith in
    let size : e - 3750 * n ≡ min 3750 (length (drop (3750 * n) blob)) = omega (arith, length-drop (3750 * n) blob) in
    let same : part ≡ take 3750 (drop (3750 * n) blob) =
    is ∙ ap (λ (k : ℕ). take k (drop (3750 * n) blob)) size ∙ take_min 3750 (drop (3750 * n) blob) in
    let first : List (List ℕ) = first_parts blob n in
    let put : blob_pieces (first ++ part ∷ []) ≡ blob_pieces first ++ part_piece part ∷ [] =
    map-append part_piece first (part ∷ []) in
    let P : List (List ℕ) → Type 0 = λ (ps : List (List ℕ)). AreSealedSo digits ps old more new in
    let whole : AreSealedSo digits (blob_pieces (first ++ part ∷ [])) old more new =
    subst P (sym put) (sealed_push digits (blob_pieces first) (part_piece part) old mid new chunks more held one stays) in
    let Q : List ℕ → Type 0 = λ (p : List ℕ). AreSealedSo digits (blob_pieces (first ++ p ∷ [])) old more new in
    let R : ℕ → Type 0 = λ (k : ℕ). AreSealedSo digits (blob_pieces (first_parts blob k)) old more new in
    subst R (sym next) (subst Q same whole)

pub parts_all : (digits blob : List ℕ) (n : ℕ) (old new : EntropyNow) (chunks : List SjclChunk)
    → n ≡ (length blob + 3749) / 3750 → AreSealedSo digits (blob_pieces (first_parts blob n)) old chunks new
    → AreSealedSo digits (blob_pieces (parts_of_blob blob)) old chunks new
parts_all digits blob n old new chunks end held =
    let R : ℕ → Type 0 = λ (k : ℕ). AreSealedSo digits (blob_pieces (first_parts blob k)) old chunks new in
    subst R end held

-- ---- no piece is long

take_few : (bytes : List ℕ) → length (take 3750 bytes) ≤ 3750
take_few bytes = subst (λ (n : ℕ). n ≤ 3750) (sym (length-take 3750 bytes)) (min-le_left 3750 (length bytes))

short_parts_from : (blob : List ℕ) (n : ℕ) → All ShortPiece (blob_pieces (first_parts blob n))
unfolding first_parts
short_parts_from blob zero = All-nil ShortPiece
short_parts_from blob (suc n) =
    let part : List ℕ = take 3750 (drop (3750 * n) blob) in
    let put : blob_pieces (first_parts blob n ++ part ∷ []) ≡ blob_pieces (first_parts blob n) ++ part_piece part ∷ [] =
    map-append part_piece (first_parts blob n) (part ∷ []) in
    let P : List (List ℕ) → Type 0 = All ShortPiece in
    subst P (sym put) (All-append ShortPiece (blob_pieces (first_parts blob n)) (part_piece part ∷ [])
    (short_parts_from blob n)
    (All-cons ShortPiece (part_piece part) [] (part_short part (take_few (drop (3750 * n) blob))) (All-nil ShortPiece)))

pub short_parts : (blob : List ℕ) → All ShortPiece (blob_pieces (parts_of_blob blob))
short_parts blob = short_parts_from blob ((length blob + 3749) / 3750)

-- ---- the parts are the blob

abbrev itself : List ℕ → List ℕ
itself part = part

parts_joined : (blob : List ℕ) (n : ℕ) → flat_map itself (first_parts blob n) ≡ take (3750 * n) blob
unfolding first_parts
parts_joined blob zero = refl
parts_joined blob (suc n) =
    let part : List ℕ = take 3750 (drop (3750 * n) blob) in
    let e : 3750 * suc n ≡ 3750 * n + 3750 = omega arith in
    let more : flat_map itself (first_parts blob n ++ part ∷ []) ≡ flat_map itself (first_parts blob n) ++ part =
    sym (flat_map_more itself [] (first_parts blob n) part) in
    more ∙ ap (λ (front : List ℕ). front ++ part) (parts_joined blob n)
    ∙ sym (ap (λ (k : ℕ). take k blob) e ∙ take_further blob (3750 * n) 3750)

parts_whole : (blob : List ℕ) → flat_map itself (parts_of_blob blob) ≡ blob
parts_whole blob =
    let count : ℕ = (length blob + 3749) / 3750 in
    parts_joined blob count ∙ take_all (3750 * count) blob (omega arith)

bytes_take : (n : ℕ) (xs : List ℕ) → IsBytes xs → IsBytes (take n xs)
bytes_take zero xs h i = omega arith
bytes_take (suc n) [] h i = h i
bytes_take (suc n) (x ∷ xs) h zero = h zero
bytes_take (suc n) (x ∷ xs) h (suc i) = bytes_take n xs (λ j. h (suc j)) i

bytes_drop : (n : ℕ) (xs : List ℕ) → IsBytes xs → IsBytes (drop n xs)
bytes_drop zero xs h = h
bytes_drop (suc n) [] h = h
bytes_drop (suc n) (x ∷ xs) h = bytes_drop n xs (λ j. h (suc j))

bytes_push : (parts : List (List ℕ)) (part : List ℕ) → AllByRecursion IsBytes parts → IsBytes part
    → AllByRecursion IsBytes (parts ++ part ∷ [])
bytes_push [] part all is = (is, tt)
bytes_push (first ∷ parts) part all is = (all.0, bytes_push parts part all.1 is)

parts_bytes : (blob : List ℕ) (n : ℕ) → IsBytes blob → AllByRecursion IsBytes (first_parts blob n)
unfolding first_parts
parts_bytes blob zero is = tt
parts_bytes blob (suc n) is =
    bytes_push (first_parts blob n) (take 3750 (drop (3750 * n) blob)) (parts_bytes blob n is)
    (bytes_take 3750 (drop (3750 * n) blob) (bytes_drop (3750 * n) blob is))

-- what was sealed opens to it
pub blob_opens : (key digits blob : List ℕ) (chunks : List SjclChunk) (bytes : List ℕ) → IsBytes blob
    → length bytes ≡ 24 * length (blob_pieces (parts_of_blob blob))
    → chunks ≡ sealed_pieces digits (blob_pieces (parts_of_blob blob)) bytes
    → blob_in digits (of_chunks key chunks) ≡ Ok blob
blob_opens key digits blob chunks bytes is long made =
    let pieces : List (List ℕ) = blob_pieces (parts_of_blob blob) in
    let brief = brief_pieces digits pieces bytes long (short_parts blob) in
    let Valid : List SjclChunk → Type 0 = AllByRecursion ValidChunk in
    let sealed : AreSealed digits chunks pieces =
    subst (λ (cs : List SjclChunk). AreSealed digits cs pieces) (sym made) (are_sealed digits pieces bytes) in
    blob_in-sealed digits (parts_of_blob blob) (of_chunks key chunks) refl
    (parts_bytes blob ((length blob + 3749) / 3750) is)
    (subst Valid (sym made) (chunks_valid (sealed_pieces digits pieces bytes) brief)) sealed
    ∙ ap Ok (parts_whole blob)

pub drawn_over : (digits one other : List ℕ) (before after : Option (List ℕ)) (chunks : List SjclChunk) → one ≡ other
    → IsMadeOfDrawn (sealed_pieces digits (blob_pieces (parts_of_blob one)))
    (24 * length (blob_pieces (parts_of_blob one))) before chunks after
    → IsMadeOfDrawn (sealed_pieces digits (blob_pieces (parts_of_blob other)))
    (24 * length (blob_pieces (parts_of_blob other))) before chunks after
drawn_over digits one other before after chunks same drawn =
    let P : List ℕ → Type 0 = λ (blob : List ℕ). IsMadeOfDrawn (sealed_pieces digits (blob_pieces (parts_of_blob blob)))
    (24 * length (blob_pieces (parts_of_blob blob))) before chunks after in
    subst P same drawn
