-- What a call under a lease leaves, and why it answers as it does.
use Rattle.std.specs.Prelude.{ℕ, ◌+◌, ◌<◌, ◌≤◌, ◌≡◌, ◌⊎◌, List, ◌++◌, Result, Ok, Err, false}
use Rattle.std.specs.declared.alloc.AllocError.{AllocError}
use Rattle.jop_target.specs.declared.call.Call.{Call}
use Rattle.jop_target.specs.declared.event.Event.{Event}
use Rattle.jop_target.specs.declared.reply.Reply.{Reply}
use Rattle.jop_target.specs.declared.reply.Reply.TheVariants.{Failed}
use Rattle.jop_target.specs.Runs.{has_failed}
use Rattle.jop_target.specs.Trail.{LineNow, IsAnswered, IsUnheard, last_moment}
use Rattle.lease.specs.declared.error.LeaseErr.{LeaseErr}
use Rattle.lease.specs.declared.error.LeaseErr.TheVariants.{Busy, Lost, TargetFault, NoMemory}
use Rattle.lease.specs.declared.lease.Lease.{Lease}
use Rattle.lease.specs.Added.{Makes, renew_calls}
use Rattle.lease.specs.Calls.{LeaseGoesOn, Fails}
use Rattle.lease.specs.Locks.{RENEWAL}
use Rattle.lease.specs.Outcomes.{HasMissed}
use Rattle.lease.specs.Phase.{Renewing}
use Rattle.lease.specs.Standing.{IsFresh, IsHeld}

-- the calls of one renewal were made, as far as it came
abbrev pub MakesRenewal : Lease → LineNow → LineNow → Result (Unit {0}) LeaseErr → Type 0
MakesRenewal before old new result =
    Makes (renew_calls before.kind before.client) old.trail new.trail result

-- If it was due, the lease was renewed once, by calls of its own, and now it is fresh.
pub record IsFreshlyHeld (before after : Lease) (old mid : LineNow) : Type 0 where
  pub goes : LeaseGoesOn before.client old mid
  pub calls : MakesRenewal before old mid (Ok tt)
  pub fresh : IsFresh after mid.trail
  pub spared : last_moment old.trail < before.stamp + RENEWAL → mid ≡ old

-- Or it was due and its renewal gave no lease; no other call was made.
pub record RenewsInVain (before : Lease) (old new : LineNow) (e : LeaseErr) : Type 0 where
  pub due : before.stamp + RENEWAL ≤ last_moment old.trail
  pub goes : LeaseGoesOn before.client old new
  pub calls : MakesRenewal before old new (Err e)

-- Then the call was made and has this reply.
pub record HasCalled (before after : Lease) (call : Call) (blob : List ℕ) (old new : LineNow)
    (bytes : List ℕ) (reply : Reply) : Type 0 where
  pub mid : LineNow
  pub ready : IsFreshlyHeld before after old mid
  pub answered : IsAnswered mid call blob new bytes reply

-- Or out of memory the call wasn't made, or its reply wasn't heard.
pub record HasCalledUnheard (before after : Lease) (call : Call) (blob : List ℕ) (old new : LineNow)
    (bytes : List ℕ) : Type 0 where
  pub mid : LineNow
  pub ready : IsFreshlyHeld before after old mid
  pub error : AllocError
  pub unheard : IsUnheard mid call blob new bytes error

-- the call was answered, and the lease is still held
pub record HasWorked (before after : Lease) (call : Call) (blob : List ℕ) (old new : LineNow)
    (bytes : List ℕ) : Type 0 where
  pub reply : Reply
  pub called : HasCalled before after call blob old new bytes reply
  pub heard : ¬ (reply ≡ Failed)
  pub held : IsHeld after new.trail

-- no call that was added to the trail was answered `Failed`
pub record NoneFailed (old new : List Event) : Type 0 where
  pub more : List Event
  pub trail : new ≡ old ++ more
  pub heard : has_failed more ≡ false

-- each answer, by its cause; if the renewal gives nothing, the call isn't made
abbrev pub Works : Lease → Lease → Call → List ℕ → LineNow → LineNow → List ℕ →
    Result (Unit {0}) LeaseErr → Type 0
Works before after call blob old new bytes (Ok done) =
    HasWorked before after call blob old new bytes
Works before after call blob old new bytes (Err (Lost seen)) =
    RenewsInVain before old new (Lost seen)
    × HasMissed before.kind before.client (Renewing before.kind before.stamp) new.trail seen
Works before after call blob old new bytes (Err TargetFault) =
    Fails before.client old new
    × (RenewsInVain before old new TargetFault
    ⊎ HasCalled before after call blob old new bytes Failed)
Works before after call blob old new bytes (Err NoMemory) =
    NoneFailed old.trail new.trail
    × (RenewsInVain before old new NoMemory
    ⊎ HasCalledUnheard before after call blob old new bytes)
Works before after call blob old new bytes (Err (Busy lock now)) = ⊥
