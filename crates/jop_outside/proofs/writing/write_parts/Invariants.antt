use Rattle.std.proofs.Common.{drop}
use Rattle.std.specs.Prelude.{flat_map}
use Rattle.jop_outside.proofs.WritingLaws.{IsAt}
use Rattle.jop_outside.proofs.writing.write_parts.Given as goal

abbrev pub invariant-loop-part : goal.invariant-loop-part
invariant-loop-part g l =
    IsAt (g.S.Sink.state l.fn.sink) (flat_map (λ p. p.now) l.fn.parts)
    (g.S.Sink.state l.sink) (flat_map (λ p. p.now) (drop l.part-index l.fn.parts))
