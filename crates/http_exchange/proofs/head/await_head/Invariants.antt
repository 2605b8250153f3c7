use Rattle.http_exchange.proofs.Answering.{HasPassed}
use Rattle.http_exchange.proofs.head.await_head.Given as goal

abbrev pub invariant-loop-round : goal.invariant-loop-round
invariant-loop-round g l =
    HasPassed l.fn.client (g.L.Link.state l.fn.link) l.round l.client (g.L.Link.state l.link) l.unread
