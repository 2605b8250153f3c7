use Rattle.std.proofs.Common.{length}
use Rattle.jop_outside.proofs.WritingLaws.{IsAt}
use Rattle.dav_link.specs.Links.{WritesAlone, sink_of}
use Rattle.dav_link.proofs.sending.write_message.Given as goal

abbrev pub invariant-loop-rest : goal.invariant-loop-rest
invariant-loop-rest g l =
    IsAt (sink_of (g.L.Link.state l.fn.link)) l.fn.bytes (sink_of (g.L.Link.state l.link)) l.rest
    × WritesAlone (g.L.Link.state l.fn.link) (g.L.Link.state l.link)

abbrev pub decreases-loop-rest : goal.decreases-loop-rest
decreases-loop-rest g l = length l.rest
