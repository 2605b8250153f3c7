use Rattle.std.proofs.Common.{ℕ, List, length, ap, arith, inl, inr}
use Rattle.item_kinds.specs.Times.{time_text}
use Rattle.item_kinds.proofs.Named.{none_weaker}
use Rattle.item_kinds.proofs.time.read_time.Goals as goal

pub returns-then-text-le15-clause-none : goal.returns-then-text-le15-clause-none
unfolding time_text
returns-then-text-le15-clause-none c =
    none_weaker c.read_count.result _ _ (λ none. λ time is. elim is.1 [
      | inl stamp ↦ let long = ap (λ (xs : List ℕ). length xs) stamp in
          let short = c.if-text-le15.true in omega (arith, long, short)
      | inr count ↦ none time is.0 count
    ]) c.read_count.ensures.none
