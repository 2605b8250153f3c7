-- How a sync gives its lease up.
use Rattle.std.specs.Prelude.{◌≡◌, Bool, true, false, Result, Ok, Err}
use Rattle.client.specs.Sites.{SiteNow, IsSameSite}
use Rattle.lease.specs.Added.{Makes, leave_calls}
use Rattle.lease.specs.Calls.{LeaseGoesOn}
use Rattle.lease.specs.Outcomes.{Releases}
use Rattle.lease.specs.Phase.{Held}
use Rattle.lease.specs.Standing.{StandsIn}
use Rattle.lease.specs.declared.error.LeaseErr.{LeaseErr}
use Rattle.lease.specs.declared.error.LeaseErr.TheVariants as lease_errors
use Rattle.lease.specs.declared.lease.Lease.{Lease}
use Rattle.sync_session.specs.declared.sync_err.SyncErr.{SyncErr}
use Rattle.sync_session.specs.declared.sync_err.SyncErr.TheVariants.{Busy, LeaseLost, TargetFault, NoMemory}

-- whether the lease is still held behind work that was answered so
abbrev pub holds_lease : Result (Unit {0}) SyncErr → Bool
holds_lease (Err (Busy lock now)) = false
holds_lease (Err (LeaseLost seen)) = false
holds_lease (Err TargetFault) = false
holds_lease (Err NoMemory) = false
holds_lease worked = true

-- and then the trail tells it
abbrev pub HoldsIf : Result (Unit {0}) SyncErr → Lease → SiteNow → Type 0
HoldsIf worked lease d =
    holds_lease worked ≡ true
    → StandsIn lease.client d.line.trail (Held lease.kind lease.stamp)

-- only work that is done answers that the release failed
abbrev pub or_fault : Result (Unit {0}) SyncErr → Result (Unit {0}) SyncErr
or_fault (Ok done) = Err TargetFault
or_fault (Err e) = Err e

-- what a session answers whose work was answered so, and whose release so
abbrev pub answer_once_left : Result (Unit {0}) LeaseErr → Result (Unit {0}) SyncErr →
    Result (Unit {0}) SyncErr
answer_once_left (Ok done) worked = worked
answer_once_left (Err lease_errors.NoMemory) worked = Err NoMemory
answer_once_left (Err e) worked = or_fault worked

-- the lease was given up
pub record GivesUpLease (lease : Lease) (worked : Result (Unit {0}) SyncErr) (old : SiteNow)
    (result : Result (Unit {0}) SyncErr) (new : SiteNow) : Type 0 where
  pub released : Result (Unit {0}) LeaseErr
  pub gives : Releases lease old.line new.line released
  pub calls : Makes (leave_calls lease.kind lease.client) old.line.trail new.line.trail released
  pub goes : LeaseGoesOn lease.client old.line new.line
  pub same : IsSameSite old new
  pub is : result ≡ answer_once_left released worked

-- if it is held still; else nothing is called
abbrev pub LeavesIf : Bool → Lease → Result (Unit {0}) SyncErr → SiteNow →
    Result (Unit {0}) SyncErr → SiteNow → Type 0
LeavesIf true lease worked old result new = GivesUpLease lease worked old result new
LeavesIf false lease worked old result new = (result ≡ worked) × (new ≡ old)

abbrev pub LeavesLease : Lease → Result (Unit {0}) SyncErr → SiteNow → Result (Unit {0}) SyncErr →
    SiteNow → Type 0
LeavesLease lease worked old result new =
    LeavesIf (holds_lease worked) lease worked old result new
