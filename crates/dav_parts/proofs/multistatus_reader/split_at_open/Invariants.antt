use Rattle.std.proofs.Common.{◌≡◌, take, false}
use Rattle.dav_parts.specs.Multistatus.{has_open}
use Rattle.dav_parts.proofs.multistatus_reader.split_at_open.Given as goal

abbrev pub invariant-loop-place : goal.invariant-loop-place
invariant-loop-place l = has_open (take l.place l.text) ≡ false
