use Rattle.std.proofs.Common.{◌+◌, ◌-◌, length}
use Rattle.std.specs.List.{AllPass}
use Rattle.jed_format.specs.Chunk.{is_chunk}
use Rattle.jed_format.specs.Jed.{chunks_in}
use Rattle.jed_format.proofs.Chunks.{Stands}
use Rattle.jed_format.proofs.jed_reader.chunks_in.Given as goal

abbrev pub invariant-loop-n : goal.invariant-loop-n
invariant-loop-n l = record {
  stands : Stands (chunks_in l.body) l.chunks (length l.body - l.n) (l.n + 1) l.rest;
  valid : AllPass is_chunk l.chunks;
}
