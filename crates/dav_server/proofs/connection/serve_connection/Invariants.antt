use Rattle.std.proofs.Common.{◌≤◌}
use Rattle.jop_base.specs.Times.{last_time}
use Rattle.dav_server.proofs.Served.{IsServing}
use Rattle.dav_server.proofs.connection.serve_connection.Given as goal

abbrev pub invariant-loop-count : goal.invariant-loop-count
invariant-loop-count g l =
    IsServing (g.L.Link.state l.fn.link) (g.L.Link.state l.link) (g.N.Line.state l.fn.line)
    (g.N.Line.state l.line) l.kept l.date l.count
    × (l.date ≤ last_time)
    × g.N.Line.keeps l.fn.line l.line
