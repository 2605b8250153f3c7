use Rattle.std.proofs.Common.{take}
use Rattle.std.specs.List.{All}
use Rattle.jed_format.specs.Write.{IsSjcl}
use Rattle.jed_format.proofs.writer.prove_all.Given as goal

abbrev pub invariant-loop-chunk : goal.invariant-loop-chunk
invariant-loop-chunk l = All IsSjcl (take l.chunk-index l.chunks)
