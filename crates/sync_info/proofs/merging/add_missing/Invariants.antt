use Rattle.std.proofs.Common.{◌≡◌, ◌++◌, take}
use Rattle.sync_info.specs.Merge.{missing}
use Rattle.sync_info.proofs.merging.add_missing.Given as goal

abbrev pub invariant-loop-key : goal.invariant-loop-key
invariant-loop-key l =
    l.keys ≡ l.initial.keys ++ missing (take l.key-index l.local) l.remote
