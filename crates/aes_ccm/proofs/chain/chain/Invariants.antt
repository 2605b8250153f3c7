use Rattle.std.proofs.Common.{◌≡◌}
use Rattle.aes_ccm.specs.Ccm.{chained}
use Rattle.aes_ccm.proofs.chain.chain.Given as goal

abbrev pub invariant-loop-n : goal.invariant-loop-n
invariant-loop-n l = l.block ≡ chained l.key l.fn.start l.text l.n
