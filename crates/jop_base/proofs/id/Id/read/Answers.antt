use Rattle.std.proofs.Common.{sym, subst, ◌≡◌, List, ℕ, length, true, ap, ◌∙◌}
use Rattle.std.specs.Prelude.{All}
use Rattle.jop_base.specs.Id.{is_digit}
use Rattle.jop_base.proofs.id.Id.read.Goals as goal

pub invariant_of-result : goal.invariant_of-result
invariant_of-result c =
    let whole = c.in-Ok.ensures.1 in
    let are = c.are_digits.ensures.0 c.if-are_digits.true in
    record {
      long = ap length whole.same ∙ whole.long;
      digits = subst (λ (ds : List ℕ). All (λ d. is_digit d ≡ true) ds) (sym whole.same) are;
    }
