use Rattle.std.proofs.Common.{◌≡◌, take}
use Rattle.sqlite.specs.Values.{bound}
use Rattle.test_keepers.proofs.recorder.values_of.Given as goal

abbrev pub invariant-loop-value : goal.invariant-loop-value
invariant-loop-value l = l.row ≡ bound (take l.value-index l.values)
