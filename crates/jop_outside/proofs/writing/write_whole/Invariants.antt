use Rattle.std.proofs.Common.{length}
use Rattle.jop_outside.proofs.WritingLaws.{IsAt}
use Rattle.jop_outside.proofs.writing.write_whole.Given as goal

abbrev pub invariant-loop-rest : goal.invariant-loop-rest
invariant-loop-rest g l = IsAt (g.S.Sink.state l.fn.sink) l.fn.bytes (g.S.Sink.state l.sink) l.rest

abbrev pub decreases-loop-rest : goal.decreases-loop-rest
decreases-loop-rest g l = length l.rest
