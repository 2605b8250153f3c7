use Rattle.std.proofs.Common.{◌≡◌, ℕ, ◌<◌, true, arith, List, [], ◌∷◌, suc, get_or}
use Rattle.std.proofs.lemmas.Str.{IsUtf8-from_ascii}
use Rattle.std.proofs.lemmas.Bool.Decides.{nat_tests}
use Rattle.std.specs.Prelude.{All, zero}
use Rattle.jop_base.specs.Id.{is_digit}
use Rattle.jop_base.proofs.id.Id.as_str.Goals as goal

hex_ascii : (d : ℕ) → is_digit d ≡ true → d < 128
hex_ascii d h = grind (arith, nat_tests)

ascii : (ds : List ℕ) → All (λ d. is_digit d ≡ true) ds → (i : ℕ) → get_or ds i 0 < 128
ascii [] h i = omega arith
ascii (d ∷ ds) h zero = hex_ascii d (h 0 0 (omega arith))
ascii (d ∷ ds) h (suc i) = ascii ds (λ k e lt. h (suc k) e (omega arith)) i

pub unreachable-requires : goal.unreachable-requires
unreachable-requires c =
    let low = ascii c.self.inside.digits c.self.invariant.digits in
    c.in-Err.ensures.cases.0 (IsUtf8-from_ascii _ low)
