use Rattle.std.proofs.Common.{◌≡◌, find}
use Rattle.lease.specs.Locks.{locks_in, is_in_way}
use Rattle.lease.proofs.locks.blocking.Given as goal

-- no lock that was passed over is in the way
abbrev pub invariant-loop-lock : goal.invariant-loop-lock
invariant-loop-lock l =
    find (is_in_way l.kind l.client l.now) (locks_in l.fn.listing.entries) ≡ find
    (is_in_way l.kind l.client l.now) (locks_in l.lock-iterator.entries.now)
