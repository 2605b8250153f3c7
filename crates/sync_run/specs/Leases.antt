-- What a session of any command promises of its lease, whatever history its events are the client's
-- last part of.
use Rattle.std.specs.Prelude.{ℕ, ◌≡◌, List, ◌++◌, Bool, true, false, Option, Some, None, Result, Ok, Err}
use Rattle.jop_base.specs.declared.lock_name.LockKind.{LockKind}
use Rattle.jop_base.specs.declared.lock_name.LockKind.TheVariants.{Exclusive, Sync}
use Rattle.jop_target.specs.declared.event.Event.{Event}
use Rattle.lease.specs.Blocked.{NamesALiveLock}
use Rattle.lease.specs.Exclusion.{KeepsApart}
use Rattle.lease.specs.declared.lock.Lock.{Lock}
use Rattle.law_exclusion.specs.Exclusive.{KeepsExclusive}
use Rattle.law_exclusion.specs.Runs.{LeavesUpgraded}
use Rattle.target_upgrade.specs.Course.{ObeysLease}
use Rattle.sync_run.specs.declared.session_err.SessionErr.{SessionErr}
use Rattle.sync_run.specs.declared.session_err.SessionErr.TheVariants.{Busy}

-- ---- what a session answers

-- the lock that a busy answer names, and the moment at which it was live
abbrev pub blocked_in : {T : Type 0} → Result T SessionErr → Option (Lock × ℕ)
blocked_in (Err (Busy lock now)) = Some (lock, now)
blocked_in result = None

-- whether its work was done
abbrev pub is_done : {T : Type 0} → Result T SessionErr → Bool
is_done (Ok value) = true
is_done (Err error) = false

-- ---- what it promises

-- an upgrade that is done leaves the upgraded target; other sessions have nothing to redo
abbrev pub Redoes : LockKind → List ℕ → List Event → Type 0
Redoes Exclusive client events = LeavesUpgraded client events
Redoes Sync client events = Unit {0}

-- What is promised of a session under a lease of this kind that was blocked by this lock, if by any,
-- and whose work was done or not.
pub record KeepsLease (kind : LockKind) (client : List ℕ) (blocked : Option (Lock × ℕ))
    (done : Bool) (events : List Event) : Type 0 where
  -- its locks are put, renewed and deleted in turn, and nothing else is called than its lease allows
  pub obeys : ObeysLease client events
  -- no other client's write falls within an upgrade, and no two upgrades overlap
  pub apart : KeepsApart client events
  -- and each write lands on the version that its session has read, if the other clients do under
  -- their leases what is allowed
  pub exclusive : KeepsExclusive client events
  -- the lock that a busy answer names stood in the way, live, with that stamp
  pub busy : (lock : Lock) (now : ℕ) → blocked ≡ Some (lock, now) →
      NamesALiveLock kind client events lock now
  -- done once, or behind an upgrade that was stopped anywhere, it leaves the upgraded target
  pub redone : done ≡ true → Redoes kind client events

-- this is promised of what was added to the trail
abbrev pub KeepsLeaseFrom : LockKind → List ℕ → Option (Lock × ℕ) → Bool → List Event →
    List Event → Type 0
KeepsLeaseFrom kind client blocked done old new =
    (added : List Event) → new ≡ old ++ added → KeepsLease kind client blocked done added
