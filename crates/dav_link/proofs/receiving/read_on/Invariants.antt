use Rattle.dav_link.proofs.LinkLaws.{IsAt}
use Rattle.dav_link.proofs.receiving.read_on.Given as goal

abbrev pub invariant-loop-missing : goal.invariant-loop-missing
invariant-loop-missing g l =
    IsAt (g.L.Link.state l.fn.link) l.fn.kept l.fn.count (g.L.Link.state l.link) l.kept l.missing

abbrev pub decreases-loop-missing : goal.decreases-loop-missing
decreases-loop-missing g l = l.missing
