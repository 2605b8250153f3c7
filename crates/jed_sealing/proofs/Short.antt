-- How long pieces are.
use Rattle.std.proofs.Common.{ℕ, zero, suc, ◌+◌, ◌*◌, ◌/◌, ◌≤◌, ◌<◌, Bool, true, false, nat_lt, List, [], ◌∷◌, length, take, drop, if◌then◌else◌, sym, subst, arith}
use Rattle.std.specs.List.{flat_map, All}
use Rattle.std.proofs.lemmas.List.{length-append, length-take}
use Rattle.std.proofs.Math.Nat.{min-le_left}
use Rattle.std.proofs.lemmas.List.Elements.{All-append, All-cons, All-nil}
use Rattle.jed_text.specs.Escape.{escaped_pieces, escaped_unit, escaped_units, is_plain, pieces_of}
use Rattle.jed_text.specs.Hexadecimal.{digit_of}
use Rattle.jed_text.specs.Units.{units_of}

unit_by : (plain low : Bool) (u a b c d e : ℕ)
    → length (if plain then u ∷ [] else if low then 37 ∷ a ∷ b ∷ [] else 37 ∷ 117 ∷ c ∷ d ∷ e ∷ b ∷ []) ≤ 6
unit_by true low u a b c d e = omega arith
unit_by false true u a b c d e = omega arith
unit_by false false u a b c d e = omega arith

unit_short : (u : ℕ) → length (escaped_unit u) ≤ 6
unit_short u =
    unit_by (is_plain u) (nat_lt u 256) u (digit_of (u / 16)) (digit_of u) (digit_of (u / 4096))
    (digit_of (u / 256)) (digit_of (u / 16))

pub length-escaped : (units : List ℕ) → length (escaped_units units) ≤ 6 * length units
unfolding escaped_units
length-escaped [] = omega arith
length-escaped (u ∷ units) =
    omega (arith, length-append (escaped_unit u) (flat_map escaped_unit units), unit_short u, length-escaped units)

piece_short : (units : List ℕ) → length (escaped_units (take 5000 units)) < 65536
piece_short units =
    let most : length (take 5000 units) ≤ 5000 =
    subst (λ (n : ℕ). n ≤ 5000) (sym (length-take 5000 units)) (min-le_left 5000 (length units)) in
    omega (arith, length-escaped (take 5000 units), most)

short_from : (units : List ℕ) (n : ℕ) → All (λ piece. length piece < 65536) (escaped_pieces units n)
unfolding escaped_pieces
short_from units zero = All-nil (λ piece. length piece < 65536)
short_from units (suc n) =
    let piece : List ℕ = escaped_units (take 5000 (drop (5000 * n) units)) in
    All-append (λ p. length p < 65536) (escaped_pieces units n) (piece ∷ []) (short_from units n)
    (All-cons (λ p. length p < 65536) piece [] (piece_short (drop (5000 * n) units)) (All-nil (λ p. length p < 65536)))

-- no piece of a text is long
pub short_pieces : (text : List ℕ) → All (λ piece. length piece < 65536) (pieces_of text)
short_pieces text = short_from (units_of text) ((length (units_of text) + 4999) / 5000)
