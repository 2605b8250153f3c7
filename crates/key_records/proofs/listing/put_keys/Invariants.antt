use Rattle.std.proofs.Common.{◌≡◌, ◌++◌, take}
use Rattle.key_records.specs.Listing.{key_lines}
use Rattle.key_records.proofs.listing.put_keys.Given as goal

abbrev pub invariant-loop-known : goal.invariant-loop-known
invariant-loop-known l = l.text ≡ l.fn.text ++ key_lines l.active (take l.known-index l.keys)
