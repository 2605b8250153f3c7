-- Escaping, unit by unit and piece by piece.
use Rattle.std.proofs.Common.{◌≡◌, ℕ, suc, ◌+◌, ◌-◌, ◌*◌, ◌<◌, ◌≤◌, List, [], ◌∷◌, ◌++◌, length, take, drop, min, get_or, refl, arith, length-drop}
use Rattle.std.proofs.lemmas.List.{flat_map_more, take_more, take_min}
use Rattle.jed_text.specs.Escape.{escaped_unit, escaped_units, escaped_pieces}

-- one more unit
pub escaped_step : (units out new : List ℕ) (n u : ℕ) → out ≡ escaped_units (take n units) → n < length units → u ≡ get_or units n 0
    → new ≡ out ++ escaped_unit u → new ≡ escaped_units (take (n + 1) units)
unfolding escaped_units
escaped_step units out new n u held lt eu made =
    rw (made, held, eu, take_more units n 0 lt) (flat_map_more escaped_unit [] (take n units) (get_or units n 0))

-- one more piece
pub pieces_step : (units piece : List ℕ) (pieces new : List (List ℕ)) (n e : ℕ) → pieces ≡ escaped_pieces units n
    → e ≡ min (5000 * n + 5000) (length units) → 5000 * n ≤ length units
    → piece ≡ escaped_units (take (e - 5000 * n) (drop (5000 * n) units))
    → new ≡ pieces ++ piece ∷ []
    → new ≡ escaped_pieces units (n + 1)
unfolding escaped_pieces
pieces_step units piece pieces new n e held cut fits made put =
    let next : n + 1 ≡ suc n = omega arith in
    let size : e - 5000 * n ≡ min 5000 (length (drop (5000 * n) units)) = omega (arith, length-drop (5000 * n) units) in
    let same : take (e - 5000 * n) (drop (5000 * n) units) ≡ take 5000 (drop (5000 * n) units) = rw size (take_min 5000 (drop (5000 * n) units)) in
    rw (next, put, held, made, same) refl
