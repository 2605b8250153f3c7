use Rattle.std.proofs.Common.{ℕ, ◌-◌, List, length}
use Rattle.dav_link.specs.Receiving.{HasKept}
use Rattle.dav_link.proofs.awaiting.await_head.Given as goal

abbrev pub invariant-loop-link : goal.invariant-loop-link
invariant-loop-link g l =
    (bytes : List ℕ)
    × HasKept (g.L.Link.state l.fn.link) l.fn.kept (g.L.Link.state l.link) l.kept bytes

abbrev pub decreases-loop-link : goal.decreases-loop-link
decreases-loop-link g l = 16_384 - length l.kept
