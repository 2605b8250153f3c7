use Rattle.std.proofs.Common.{◌+◌, ◌-◌, length}
use Rattle.jop_outside.specs.Reading.{IsAt}
use Rattle.jop_outside.proofs.reading.read_to_end.Given as goal

abbrev pub invariant-loop-piece : goal.invariant-loop-piece
invariant-loop-piece g l =
    IsAt l.limit (g.S.Source.state l.fn.source) l.bytes (g.S.Source.state l.source)

abbrev pub decreases-loop-piece : goal.decreases-loop-piece
decreases-loop-piece g l = l.limit + 1 - length l.bytes
