-- Texts, the units that spell them, and their pieces.
use Rattle.std.proofs.Common.{◌≡◌, ℕ, zero, suc, ◌+◌, ◌-◌, ◌*◌, ◌/◌, ◌%◌, ◌^◌, ◌<◌, Bool, true, false, ◌&&◌, List, [], ◌∷◌, ◌++◌, length, take, drop, get_or, Some, refl, sym, ap, ◌∙◌, subst, arith, inl, inr, take-append-drop}
use Rattle.std.specs.Prelude.{encode_utf8_all}
use Rattle.std.specs.Char.Escape.{encode_utf16}
use Rattle.std.specs.Char.Utf16.{utf16_chars, utf16_lossy_chars, surrogate_pair_char, lone_unit_char}
use Rattle.std.specs.List.{flat_map}
use Rattle.std.specs.Str.{chars, IsUtf8}
use Rattle.std.proofs.Math.Utf8.{scalar, scalars, scalar_cases}
use Rattle.std.proofs.lemmas.Bool.{cases_lt}
use Rattle.std.proofs.lemmas.List.{flat_map_more, take-take, drop-take, take_all}
use Rattle.std.proofs.lemmas.Str.{chars-encodes, utf16_chars-nil, utf16_chars_lone, utf16_chars_pair}
use Rattle.std.proofs.str.Utf16.{IsPair, one_unit, two_units, lone_unit_char_low, lone_unit_char_high}
use Rattle.jed_text.specs.Units.{units_of, text_of}
use Rattle.jed_text.specs.Escape.{escaped_units, escaped_pieces, pieces_of, unescaped_units}
use Rattle.jed_text.proofs.UnescapeSteps.{AreUnits, unescaped-escaped}

-- ---- one letter

-- a unit alone is its letter
lone_letter : (c : ℕ) (rest : List ℕ) → c < 0x1_0000 → (IsPair c (get_or rest 0 0) → ⊥) → lone_unit_char c ≡ Some c
    → utf16_chars (encode_utf16 c ++ rest) ≡ Some c ∷ utf16_chars rest
lone_letter c rest low apart alone = rw (one_unit c low) (utf16_chars_lone c rest apart ∙ ap (λ o. o ∷ utf16_chars rest) alone)

letter_spelled : (c : ℕ) (rest : List ℕ) → scalar c ≡ true → utf16_chars (encode_utf16 c ++ rest) ≡ Some c ∷ utf16_chars rest
letter_spelled c rest h = elim (scalar_cases c h) [
  | inl low ↦ lone_letter c rest (omega arith) (λ pair. absurd (omega arith)) (lone_unit_char_low c low)
  | inr high ↦ elim (cases_lt c 0x1_0000) [
    | inl one ↦ lone_letter c rest one (λ pair. absurd (omega arith)) (lone_unit_char_high c high.0)
    | inr more ↦
        let u : ℕ = 0xD800 + (c - 0x1_0000) / 0x400 in
        let v : ℕ = 0xDC00 + (c - 0x1_0000) % 0x400 in
        let top : c < 1114112 = high.1 in
        let pair : IsPair u v = (omega arith, omega arith, omega arith, omega arith) in
        let same : surrogate_pair_char u v ≡ c = omega arith in
        rw (two_units c more) (utf16_chars_pair u v rest pair ∙ ap (λ (d : ℕ). Some d ∷ utf16_chars rest) same)
  ]
]

letter_units : (c : ℕ) (rest : List ℕ) → scalar c ≡ true → AreUnits rest → AreUnits (encode_utf16 c ++ rest)
letter_units c rest h held = elim (cases_lt c 0x1_0000) [
  | inl one ↦ rw (one_unit c one) (one, held)
  | inr more ↦ elim (scalar_cases c h) [
    | inl low ↦ absurd (omega arith)
    | inr high ↦
        let top : c < 1114112 = high.1 in
        let first : 0xD800 + (c - 0x1_0000) / 0x400 < 2 ^ 16 = omega arith in
        let second : 0xDC00 + (c - 0x1_0000) % 0x400 < 2 ^ 16 = omega arith in
        rw (two_units c more) (first, (second, held))
  ]
]

-- ---- a text

both : (a b : Bool) → (a && b) ≡ true → (a ≡ true) × (b ≡ true)
both true b h = (refl, h)
both false b h = absurd (cc)

spelled : (cs : List ℕ) → scalars cs ≡ true → utf16_lossy_chars (flat_map encode_utf16 cs) ≡ cs
spelled [] h = rw utf16_chars-nil refl
spelled (c ∷ cs) h =
    let parts = both (scalar c) (scalars cs) h in
    rw (letter_spelled c (flat_map encode_utf16 cs) parts.0) (ap (λ (ds : List ℕ). c ∷ ds) (spelled cs parts.1))

letters_units : (cs : List ℕ) → scalars cs ≡ true → AreUnits (flat_map encode_utf16 cs)
letters_units [] h = tt
letters_units (c ∷ cs) h =
    let parts = both (scalar c) (scalars cs) h in
    letter_units c (flat_map encode_utf16 cs) parts.0 (letters_units cs parts.1)

pub text_of-units_of : (text : List ℕ) → IsUtf8 text → text_of (units_of text) ≡ text
unfolding units_of text_of
text_of-units_of text utf8 =
    let cs : List ℕ = utf8.0 in
    let here : encode_utf8_all (utf16_lossy_chars (flat_map encode_utf16 (chars (encode_utf8_all cs)))) ≡ encode_utf8_all cs =
    rw (chars-encodes cs utf8.1.0, spelled cs utf8.1.0) refl in
    let P : List ℕ → Type 0 = λ t. encode_utf8_all (utf16_lossy_chars (flat_map encode_utf16 (chars t))) ≡ t in
    subst P utf8.1.1 here

pub AreUnits-units_of : (text : List ℕ) → IsUtf8 text → AreUnits (units_of text)
unfolding units_of
AreUnits-units_of text utf8 =
    let cs : List ℕ = utf8.0 in
    let here : AreUnits (flat_map encode_utf16 (chars (encode_utf8_all cs))) = rw (chars-encodes cs utf8.1.0) (letters_units cs utf8.1.0) in
    let P : List ℕ → Type 0 = λ t. AreUnits (flat_map encode_utf16 (chars t)) in
    subst P utf8.1.1 here

-- ---- its pieces

AreUnits-take : (n : ℕ) (units : List ℕ) → AreUnits units → AreUnits (take n units)
AreUnits-take zero units held = tt
AreUnits-take (suc n) [] held = tt
AreUnits-take (suc n) (u ∷ units) held = (held.0, AreUnits-take n units held.1)

AreUnits-drop : (n : ℕ) (units : List ℕ) → AreUnits units → AreUnits (drop n units)
AreUnits-drop zero units held = held
AreUnits-drop (suc n) [] held = tt
AreUnits-drop (suc n) (u ∷ units) held = AreUnits-drop n units held.1

-- a list up to a place, and so many more
pub take_further : (units : List ℕ) (a b : ℕ) → take (a + b) units ≡ take a units ++ take b (drop a units)
take_further units a b =
    let whole : take a (take (a + b) units) ++ drop a (take (a + b) units) ≡ take (a + b) units = take-append-drop a (take (a + b) units) in
    sym (rw (take-take a (a + b) units (omega arith), drop-take a b units) at whole)

pieces_joined : (units : List ℕ) (n : ℕ) → AreUnits units → flat_map unescaped_units (escaped_pieces units n) ≡ take (5000 * n) units
unfolding escaped_pieces
pieces_joined units zero held = refl
pieces_joined units (suc n) held =
    let piece : List ℕ = take 5000 (drop (5000 * n) units) in
    let e : 5000 * suc n ≡ 5000 * n + 5000 = omega arith in
    let again : unescaped_units (escaped_units piece) ≡ piece =
    unescaped-escaped piece (AreUnits-take 5000 (drop (5000 * n) units) (AreUnits-drop (5000 * n) units held)) in
    let more : flat_map unescaped_units (escaped_pieces units n ++ escaped_units piece ∷ []) ≡ flat_map unescaped_units (escaped_pieces units n) ++ unescaped_units (escaped_units piece) =
    sym (flat_map_more unescaped_units [] (escaped_pieces units n) (escaped_units piece)) in
    more ∙ ap (λ (us : List ℕ). us ++ unescaped_units (escaped_units piece))
    (pieces_joined units n held)
    ∙ ap (λ (us : List ℕ). take (5000 * n) units ++ us) again
    ∙ sym (ap (λ (k : ℕ). take k units) e ∙ take_further units (5000 * n) 5000)

-- what is cut and escaped, and then unescaped and joined, spells the text again
pub pieces_spell : (text : List ℕ) → IsUtf8 text → text_of (flat_map unescaped_units (pieces_of text)) ≡ text
pieces_spell text utf8 =
    let units : List ℕ = units_of text in
    let count : ℕ = (length units + 4999) / 5000 in
    let all : take (5000 * count) units ≡ units = take_all (5000 * count) units (omega arith) in
    ap text_of (pieces_joined units count (AreUnits-units_of text utf8) ∙ all) ∙ text_of-units_of text utf8
