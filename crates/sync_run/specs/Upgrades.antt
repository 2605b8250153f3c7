-- `upgrade_on`: why it answers as it does.
use Rattle.std.specs.Prelude.{ℕ, ◌≡◌, ◌⊎◌, List, ◌∷◌, [], ◌++◌, Bool, true, false, Result, Ok, Err}
use Rattle.jop_base.specs.declared.lock_name.LockKind.TheVariants.{Exclusive}
use Rattle.jop_base.specs.declared.path.Path.TheVariants.{Lock as LockFile}
use Rattle.jop_target.specs.declared.call.Call.TheVariants.{Delete}
use Rattle.jop_target.specs.declared.event.Event.{Event}
use Rattle.jop_target.specs.declared.event.Event.TheVariants.{Called}
use Rattle.jop_target.specs.declared.reply.Reply.{Reply}
use Rattle.jop_target.specs.declared.reply.Reply.TheVariants.{Failed}
use Rattle.jop_target.specs.Replies.{TargetNow}
use Rattle.jop_target.specs.Trail.{LineNow}
use Rattle.lease.specs.Calls.{EndsFailed}
use Rattle.lease.specs.Locks.{own_name}
use Rattle.lease.specs.Outcomes.{HasMissed, IsBlocked}
use Rattle.lease.specs.Phase.{Asked, Held}
use Rattle.lease.specs.Standing.{StandsIn}
use Rattle.lease.specs.declared.error.LeaseErr.{LeaseErr}
use Rattle.lease.specs.declared.error.LeaseErr.TheVariants as lease_errors
use Rattle.target_upgrade.specs.Answers.{HasLapsed, IsCall}
use Rattle.target_upgrade.specs.Course.{course_of}
use Rattle.target_upgrade.specs.Steps.{SUPPORTED, Upgraded}
use Rattle.sync_run.specs.Leases.{KeepsLeaseFrom, blocked_in, is_done}
use Rattle.sync_run.specs.Outcomes.{RefusesUpgrade}
use Rattle.sync_run.specs.Sessions.{AddsTask, GoesBy, RunsTask}
use Rattle.sync_run.specs.declared.outcome.Outcome.{Outcome}
use Rattle.sync_run.specs.declared.outcome.Outcome.TheVariants as outcomes
use Rattle.sync_run.specs.declared.session_err.SessionErr.{SessionErr}
use Rattle.sync_run.specs.declared.session_err.SessionErr.TheVariants.{Busy, LeaseLost, Refused, TargetFault, NoMemory}

-- ---- answers

-- what a session answers that came to this, if its release was done, or if it failed
abbrev pub answer_by : Bool → Outcome → Result ℕ SessionErr
answer_by true outcomes.Upgraded = Ok SUPPORTED
answer_by false outcomes.Upgraded = Err TargetFault
answer_by released (outcomes.Refused why) = Err (Refused why)

-- and whose release was answered so
abbrev pub answer_released : Result (Unit {0}) LeaseErr → Outcome → Result ℕ SessionErr
answer_released (Ok done) outcome = answer_by true outcome
answer_released (Err lease_errors.NoMemory) outcome = Err NoMemory
answer_released (Err e) outcome = answer_by false outcome

-- ---- why

-- This held while the exclusive lease was held; then its lock was deleted once, which is the last
-- call.
pub record HasLeftUpgrade (client : List ℕ) (trail : List Event) (Was : List Event → Type 0)
    : Type 0 where
  pub before : List Event
  pub stamp : ℕ
  pub held : StandsIn client before (Held Exclusive stamp)
  pub was : Was before
  pub reply : Reply
  pub ends : trail ≡ before ++ Called (Delete (LockFile (own_name Exclusive client))) reply ∷ []

-- all steps of an upgrade were made, or none was called for
abbrev pub IsUpgradedAt : List ℕ → List Event → Type 0
IsUpgradedAt client trail = (course_of client trail).stage ≡ Upgraded

-- and the delete was answered, and not by `Failed`
pub record HasUpgraded (client : List ℕ) (trail : List Event) : Type 0 where
  pub left : HasLeftUpgrade client trail (IsUpgradedAt client)
  pub heard : ¬ (left.reply ≡ Failed)

-- each answer, by what its calls came to
abbrev pub UpgradeAnswers : List ℕ → List Event → Result ℕ SessionErr → Type 0
UpgradeAnswers client trail (Ok version) = (version ≡ SUPPORTED) × HasUpgraded client trail
UpgradeAnswers client trail (Err (Busy lock now)) = IsBlocked Exclusive client trail lock now
UpgradeAnswers client trail (Err (LeaseLost seen)) =
    HasMissed Exclusive client (Asked Exclusive) trail seen ⊎ HasLapsed client trail seen
UpgradeAnswers client trail (Err (Refused why)) = HasLeftUpgrade client trail (RefusesUpgrade why)
UpgradeAnswers client trail (Err TargetFault) = EndsFailed client trail
UpgradeAnswers client trail (Err NoMemory) = Unit {0}

-- its calls, whichever client it is for
abbrev pub UpgradeCalls : List ℕ → Event → Type 0
UpgradeCalls client = IsCall

-- the session that has begun goes on by such calls
abbrev pub RunsUpgrade : List ℕ → LineNow → LineNow → Result ℕ SessionErr → Type 0
RunsUpgrade client old new result = RunsTask UpgradeCalls UpgradeAnswers client old new result

-- the session, of calls
abbrev pub AddsUpgrade : List ℕ → List Event → List Event → Result ℕ SessionErr → Type 0
AddsUpgrade client old new result = AddsTask UpgradeCalls UpgradeAnswers client old new result

-- and how the trail and the target went on
abbrev pub UpgradeGoesOn : List ℕ → List Event → List Event → TargetNow → TargetNow → Type 0
UpgradeGoesOn client old new before after = GoesBy UpgradeCalls client old new before after

-- and what it promises of its lease
abbrev pub UpgradeKeepsLease : List ℕ → Result ℕ SessionErr → List Event → List Event → Type 0
UpgradeKeepsLease client result old new =
    KeepsLeaseFrom Exclusive client (blocked_in result) (is_done result) old new
