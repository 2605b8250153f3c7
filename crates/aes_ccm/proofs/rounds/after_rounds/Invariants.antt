use Rattle.std.proofs.Common.{◌≡◌, ◌-◌}
use Rattle.aes_ccm.specs.Aes.{state_after}
use Rattle.aes_ccm.proofs.rounds.after_rounds.Given as goal

abbrev pub invariant-loop-round : goal.invariant-loop-round
invariant-loop-round l = l.state ≡ state_after l.words l.block (l.round - 1)
