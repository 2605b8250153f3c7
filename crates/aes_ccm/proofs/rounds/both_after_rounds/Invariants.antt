use Rattle.std.proofs.Common.{◌≡◌, ◌-◌}
use Rattle.aes_ccm.specs.Aes.{state_after}
use Rattle.aes_ccm.proofs.rounds.both_after_rounds.Given as goal

abbrev pub invariant-loop-round : goal.invariant-loop-round
invariant-loop-round l = record {
  left : l.left ≡ state_after l.words l.one (l.round - 1);
  right : l.right ≡ state_after l.words l.other (l.round - 1);
}
