use Rattle.std.proofs.Common.{◌≡◌, map, take}
use Rattle.item_kinds.specs.Slots.{pair}
use Rattle.item_kinds.proofs.pairs.pairs.Given as goal

abbrev pub invariant-loop-key : goal.invariant-loop-key
invariant-loop-key l = l.props ≡ map (λ p. pair p.0.now p.1.now) (take l.key-index l.texts)
