use Rattle.std.proofs.Common.{◌≡◌, find}
use Rattle.lease.specs.Locks.{locks_in, is_own_of}
use Rattle.lease.proofs.locks.own_stamp.Given as goal

-- no lock that was passed over is the own one
abbrev pub invariant-loop-lock : goal.invariant-loop-lock
invariant-loop-lock l =
    find (is_own_of l.kind l.client) (locks_in l.fn.listing.entries) ≡ find
    (is_own_of l.kind l.client) (locks_in l.lock-iterator.entries.now)
