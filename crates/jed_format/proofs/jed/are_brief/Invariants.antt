use Rattle.std.proofs.Common.{◌≡◌, true, take}
use Rattle.std.specs.List.{All}
use Rattle.jed_format.specs.Write.{is_brief}
use Rattle.jed_format.proofs.jed.are_brief.Given as goal

abbrev pub invariant-loop-chunk : goal.invariant-loop-chunk
invariant-loop-chunk l = All (λ c. is_brief c ≡ true) (take l.chunk-index l.chunks)
