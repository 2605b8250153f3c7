use Rattle.std.proofs.Common.{arith}
use Rattle.jed_format.specs.Write.{IsSjcl}
use Rattle.jed_format.proofs.Lists.{All-take_next, All-whole}
use Rattle.jed_format.proofs.writer.prove_all.Goals as goal

pub loop-chunk-preserved : goal.loop-chunk-preserved
loop-chunk-preserved c =
    All-take_next IsSjcl c.args.chunks.now c.loop-chunk.chunk-index c.chunk-item.result (omega arith)
    c.chunk-item.is c.loop-chunk.invariant c.prove_sjcl.ensures

pub returns : goal.returns
returns c = All-whole IsSjcl c.args.chunks.now c.loop-chunk.chunk-index c.loop-chunk.invariant (omega arith)
