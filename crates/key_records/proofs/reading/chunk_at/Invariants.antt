use Rattle.std.proofs.Common.{◌≡◌, drop}
use Rattle.key_records.specs.Reading.{chunk_at}
use Rattle.key_records.proofs.reading.chunk_at.Given as goal

abbrev pub invariant-loop-known : goal.invariant-loop-known
invariant-loop-known l = chunk_at l.keys l.id ≡ chunk_at (drop l.known-index l.keys) l.id
