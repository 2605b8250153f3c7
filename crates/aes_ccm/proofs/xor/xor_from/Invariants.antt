use Rattle.std.proofs.Common.{◌≡◌, ◌++◌, take, drop}
use Rattle.aes_ccm.specs.Lists.{xored}
use Rattle.aes_ccm.proofs.xor.xor_from.Given as goal

abbrev pub invariant-loop-n : goal.invariant-loop-n
invariant-loop-n l = l.text ≡ take l.place l.initial.text ++ xored (drop l.place l.initial.text) (take l.n l.other)
