use Rattle.std.proofs.Common.{◌≡◌, ◌++◌, take, codes}
use Rattle.std.specs.List.{flat_map}
use Rattle.jed_format.specs.Write.{framed_chunk}
use Rattle.jed_format.proofs.writer.jed_text.Given as goal

abbrev pub invariant-loop-chunk : goal.invariant-loop-chunk
invariant-loop-chunk l =
    l.text ≡ codes "JED0100002205" ++ l.jed.key ++ flat_map framed_chunk (take l.chunk-index l.jed.chunks)
