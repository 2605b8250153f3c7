use Rattle.std.proofs.Common.{◌≡◌, ◌*◌, ◌+◌, take}
use Rattle.aes_ccm.specs.Aes.{expanded}
use Rattle.aes_ccm.proofs.schedule.schedule.Given as goal

abbrev pub invariant-loop-more : goal.invariant-loop-more
invariant-loop-more l = take (4 * (l.n + l.more)) l.words ≡ expanded l.key l.more
