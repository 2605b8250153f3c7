use Rattle.std.proofs.Common.{◌≡◌, take}
use Rattle.new_keys.specs.Infos.{other_keys}
use Rattle.new_keys.proofs.infos.other_keys.Given as goal

abbrev pub invariant-loop-known : goal.invariant-loop-known
invariant-loop-known l = l.others ≡ other_keys l.id (take l.known-index l.keys)
