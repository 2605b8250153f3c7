use Rattle.std.proofs.Common.{◌≡◌, take}
use Rattle.sync_info.specs.Merge.{renewed}
use Rattle.sync_info.proofs.merging.renewed.Given as goal

abbrev pub invariant-loop-key : goal.invariant-loop-key
invariant-loop-key l = l.keys ≡ renewed l.local (take l.key-index l.remote)
