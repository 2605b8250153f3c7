use Rattle.std.proofs.Common.{◌≡◌, ◌++◌, take}
use Rattle.jop_start.proofs.defaults.add_all.Given as goal

abbrev pub invariant-loop-word : goal.invariant-loop-word
invariant-loop-word l = l.full ≡ l.fn.full ++ take l.word-index l.words
