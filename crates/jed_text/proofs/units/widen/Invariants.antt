use Rattle.std.proofs.Common.{◌≡◌, take}
use Rattle.jed_text.proofs.units.widen.Given as goal

abbrev pub invariant-loop-n : goal.invariant-loop-n
invariant-loop-n l = take l.n l.units ≡ take l.n l.bytes
