use Rattle.std.proofs.Common.{ℕ, ◌≡◌}
use Rattle.std.specs.Prelude.{Some}
use Rattle.call_log.proofs.Leading.{adds_both}
use Rattle.call_log.proofs.ways.add_next.Goals as goal

pub returns : goal.returns
returns c =
    adds_both (λ (n : ℕ). Some n ≡ c.same_place.result) _ (λ (n : ℕ). Some n ≡ c.next_place.result) _
    _ _ _ c.same_place.ensures c.next_place.ensures c.in_ok-add_some.ensures c.in_ok-add_some-2.ensures
