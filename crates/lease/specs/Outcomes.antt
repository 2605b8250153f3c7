-- Why the calls of a lease answer as they do.
use Rattle.std.specs.Prelude.{ℕ, ◌+◌, ◌<◌, ◌≤◌, ◌≡◌, ◌⊎◌, List, [], ◌∷◌, ◌++◌, Some, None, Result, Ok, Err, false}
use Rattle.jop_base.specs.declared.lock_name.LockKind.{LockKind}
use Rattle.jop_base.specs.declared.dir.Dir.TheVariants.{Locks}
use Rattle.jop_base.specs.declared.path.Path.TheVariants.{Lock as LockFile}
use Rattle.jop_target.specs.declared.call.Call.TheVariants.{List as ListDir, Delete}
use Rattle.jop_target.specs.declared.reply.Reply.{Reply}
use Rattle.jop_target.specs.declared.reply.Reply.TheVariants.{Listed, Failed}
use Rattle.jop_target.specs.declared.reply.Listing.{Listing}
use Rattle.jop_target.specs.declared.event.Event.{Event}
use Rattle.jop_target.specs.declared.event.Event.TheVariants.{Called}
use Rattle.jop_target.specs.Replies.{IsReplyTo}
use Rattle.jop_target.specs.Trail.{LineNow, EndsWith, last_moment}
use Rattle.lease.specs.declared.error.AskErr.{AskErr}
use Rattle.lease.specs.declared.error.AskErr.TheVariants.{Fault, NoMemory as WantsMemory}
use Rattle.lease.specs.declared.error.LeaseErr.{LeaseErr}
use Rattle.lease.specs.declared.error.LeaseErr.TheVariants.{Busy, Lost, TargetFault, NoMemory}
use Rattle.lease.specs.declared.error.Seen.{Seen}
use Rattle.lease.specs.declared.lease.Lease.{Lease}
use Rattle.lease.specs.declared.lock.Lock.{Lock}
use Rattle.lease.specs.Calls.{HasAsked, Fails, IsStarved, is_held}
use Rattle.lease.specs.Discipline.{phase_of}
use Rattle.lease.specs.Locks.{RENEWAL, own_name, own_stamp, blocking_in}
use Rattle.lease.specs.Phase.{Phase, Looked, Asked, Renewing, Over, old_end, stamp_in_time}
use Rattle.lease.specs.Standing.{StandsIn, IsFresh}

abbrev pub lease_err : AskErr → LeaseErr
lease_err Fault = TargetFault
lease_err WantsMemory = NoMemory

-- ---- a lease that isn't had

-- Behind a listing that was asked for in this phase its own lock was deleted, whatever was
-- answered, and the session is over.
pub record HasLeft (kind : LockKind) (client : List ℕ) (at : Phase) (trail : List Event)
    (listing : Listing) : Type 0 where
  pub before : List Event
  pub asked : HasAsked client at before listing
  pub reply : Reply
  pub ends : trail ≡ before ++ Called (Delete (LockFile (own_name kind client))) reply ∷ []
  pub over : StandsIn client trail Over

-- the listing that was asked for in this phase shows its own lock too late, or put too late, or not
-- at all
pub record HasMissed (kind : LockKind) (client : List ℕ) (at : Phase) (trail : List Event)
    (seen : Seen) : Type 0 where
  pub listing : Listing
  pub left : HasLeft kind client at trail listing
  pub now : listing.now ≡ seen.now
  pub own : own_stamp kind client listing ≡ seen.own
  pub end : old_end at ≡ seen.old_end
  pub missed : stamp_in_time seen.old_end seen.now seen.own ≡ None

-- the session's first listing shows that lock in the way, and nothing was put
pub record IsBlockedAtOnce (kind : LockKind) (client : List ℕ) (trail : List Event) (lock : Lock)
    (now : ℕ) : Type 0 where
  pub listing : Listing
  pub at : listing.now ≡ now
  pub ends : EndsWith trail (ListDir Locks) (Listed listing)
  pub looked : StandsIn client trail (Looked listing)
  pub blocking : blocking_in kind client listing ≡ Some lock

-- the listing behind the put shows its own lock in time, and that lock in its way
pub record IsBlockedAfterwards (kind : LockKind) (client : List ℕ) (trail : List Event)
    (lock : Lock) (now : ℕ) : Type 0 where
  pub listing : Listing
  pub at : listing.now ≡ now
  pub left : HasLeft kind client (Asked kind) trail listing
  pub stamp : ℕ
  pub shown : stamp_in_time None listing.now (own_stamp kind client listing) ≡ Some stamp
  pub blocking : blocking_in kind client listing ≡ Some lock

-- a lock was in the way, at once or behind the put
abbrev pub IsBlocked : LockKind → List ℕ → List Event → Lock → ℕ → Type 0
IsBlocked kind client trail lock now =
    IsBlockedAtOnce kind client trail lock now ⊎ IsBlockedAfterwards kind client trail lock now

-- ---- the answers of `acquire`

-- the lease is this client's, of this kind, held from the stamp of its own lock on, and not yet due
pub record HasAcquired (kind : LockKind) (client : List ℕ) (trail : List Event)
    (lease : Lease) : Type 0 where
  pub whole : lease ≡ record { client = client; kind = kind; stamp = lease.stamp }
  pub fresh : IsFresh lease trail

-- each answer, by its cause
abbrev pub Acquires : LockKind → List ℕ → LineNow → LineNow → Result Lease LeaseErr → Type 0
Acquires kind client old new (Ok lease) = HasAcquired kind client new.trail lease
Acquires kind client old new (Err (Busy lock now)) = IsBlocked kind client new.trail lock now
Acquires kind client old new (Err (Lost seen)) = HasMissed kind client (Asked kind) new.trail seen
Acquires kind client old new (Err TargetFault) = Fails client old new
Acquires kind client old new (Err NoMemory) = is_held (phase_of client new.trail) ≡ false

-- ---- the answers of `renew`

-- each answer, by its cause
abbrev pub Renews : Lease → Lease → LineNow → LineNow → Result (Unit {0}) LeaseErr → Type 0
Renews before after old new (Ok done) = IsFresh after new.trail
Renews before after old new (Err (Lost seen)) =
    HasMissed before.kind before.client (Renewing before.kind before.stamp) new.trail seen
Renews before after old new (Err TargetFault) = Fails before.client old new
Renews before after old new (Err NoMemory) = IsStarved before.client old.trail new.trail
Renews before after old new (Err (Busy lock now)) = ⊥

-- the same of a lease that may not be due: then nothing is called, and the lease stays
abbrev pub RenewsIfDue : Lease → Lease → LineNow → LineNow → Result (Unit {0}) LeaseErr → Type 0
RenewsIfDue before after old new (Ok done) =
    IsFresh after new.trail × (last_moment old.trail < before.stamp + RENEWAL → new ≡ old)
RenewsIfDue before after old new (Err e) =
    (before.stamp + RENEWAL ≤ last_moment old.trail) × Renews before after old new (Err e)

-- ---- the answers of `release`

-- its own lock was deleted, or wasn't there
pub record HasReleased (lease : Lease) (old new : LineNow) : Type 0 where
  pub reply : Reply
  pub trail :
      new.trail ≡ old.trail
      ++ Called (Delete (LockFile (own_name lease.kind lease.client))) reply ∷ []
  pub shape : IsReplyTo (Delete (LockFile (own_name lease.kind lease.client))) reply
  pub heard : ¬ (reply ≡ Failed)
  pub over : StandsIn lease.client new.trail Over

-- the delete of its own lock was answered `Failed`
pub record HasFailed (lease : Lease) (old new : LineNow) : Type 0 where
  pub trail :
      new.trail ≡ old.trail
      ++ Called (Delete (LockFile (own_name lease.kind lease.client))) Failed ∷ []
  pub fails : Fails lease.client old new

-- each answer, by its cause
abbrev pub Releases : Lease → LineNow → LineNow → Result (Unit {0}) LeaseErr → Type 0
Releases lease old new (Ok done) = HasReleased lease old new
Releases lease old new (Err TargetFault) = HasFailed lease old new
Releases lease old new (Err NoMemory) =
    (new.trail ≡ old.trail) ⊎ StandsIn lease.client new.trail Over
Releases lease old new (Err (Busy lock now)) = ⊥
Releases lease old new (Err (Lost seen)) = ⊥
