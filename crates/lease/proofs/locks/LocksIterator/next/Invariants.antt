use Rattle.std.proofs.Common.{◌≡◌, length}
use Rattle.lease.specs.Locks.{locks_in}
use Rattle.lease.proofs.locks.LocksIterator.next.Given as goal

-- no lock is passed over
abbrev pub invariant-loop-entry : goal.invariant-loop-entry
invariant-loop-entry l = locks_in l.self.entries.now ≡ locks_in l.initial.self.entries.now

abbrev pub decreases-loop-entry : goal.decreases-loop-entry
decreases-loop-entry l = length l.self.entries.now
