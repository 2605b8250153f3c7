use Rattle.std.proofs.Common.{◌≡◌, take}
use Rattle.std.specs.List.{AllByRecursion}
use Rattle.master_keys.proofs.Locked.{IsValidKey}
use Rattle.master_keys.specs.Rings.{locked_keys}
use Rattle.master_keys.proofs.unlocking.locked_keys.Given as goal

abbrev pub invariant-loop-known : goal.invariant-loop-known
invariant-loop-known l =
    (l.keys ≡ locked_keys (take l.known-index l.records)) × AllByRecursion IsValidKey l.keys
