use Rattle.std.proofs.Common.{◌≡◌, ◌≤◌, ℕ, List, length}
use Rattle.dav_link.specs.Receiving.{HasKept}
use Rattle.http_exchange.proofs.head.await_one_head.Given as goal

abbrev pub invariant-loop-round : goal.invariant-loop-round
invariant-loop-round g l = (l.client ≡ l.fn.client)
    × ((l.round ≤ length l.unread) × (l.round ≤ l.fn.client.limits.max_head_len)
    × ((bytes : List ℕ) × HasKept (g.L.Link.state l.fn.link) l.fn.unread (g.L.Link.state l.link) l.unread bytes))
