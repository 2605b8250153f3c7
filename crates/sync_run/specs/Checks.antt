-- `check_on`: why it answers as it does.
use Rattle.std.specs.Prelude.{ℕ, ◌≡◌, List, ◌∷◌, [], ◌++◌, Result, Ok, Err}
use Rattle.jop_base.specs.declared.lock_name.LockKind.TheVariants.{Sync}
use Rattle.jop_base.specs.declared.path.Path.TheVariants.{Lock as LockFile}
use Rattle.jop_target.specs.declared.call.Call.TheVariants.{Delete}
use Rattle.jop_target.specs.declared.event.Event.{Event}
use Rattle.jop_target.specs.declared.event.Event.TheVariants.{Called}
use Rattle.jop_target.specs.declared.reply.Reply.{Reply}
use Rattle.jop_target.specs.declared.reply.Reply.TheVariants.{Failed}
use Rattle.jop_target.specs.Replies.{IsReplyTo, TargetNow}
use Rattle.lease.specs.Calls.{EndsFailed, IsLeaseEvent}
use Rattle.lease.specs.Locks.{own_name}
use Rattle.lease.specs.Outcomes.{HasMissed, IsBlocked}
use Rattle.lease.specs.Phase.{Asked, Held}
use Rattle.lease.specs.Standing.{StandsIn}
use Rattle.sync_run.specs.Sessions.{AddsTask, GoesBy}
use Rattle.sync_run.specs.declared.session_err.SessionErr.{SessionErr}
use Rattle.sync_run.specs.declared.session_err.SessionErr.TheVariants.{Busy, LeaseLost, TargetFault, NoMemory}

-- the sync lock was held, and the last call is its delete, answered `Done` or `Absent`
pub record HasChecked (client : List ℕ) (trail : List Event) : Type 0 where
  pub before : List Event
  pub stamp : ℕ
  pub held : StandsIn client before (Held Sync stamp)
  pub reply : Reply
  pub ends : trail ≡ before ++ Called (Delete (LockFile (own_name Sync client))) reply ∷ []
  pub shape : IsReplyTo (Delete (LockFile (own_name Sync client))) reply
  pub heard : ¬ (reply ≡ Failed)

-- each answer, by what its calls came to; there are no others
abbrev pub CheckAnswers : List ℕ → List Event → Result (Unit {0}) SessionErr → Type 0
CheckAnswers client trail (Ok done) = HasChecked client trail
CheckAnswers client trail (Err (Busy lock now)) = IsBlocked Sync client trail lock now
CheckAnswers client trail (Err (LeaseLost seen)) = HasMissed Sync client (Asked Sync) trail seen
CheckAnswers client trail (Err TargetFault) = EndsFailed client trail
CheckAnswers client trail (Err NoMemory) = Unit {0}
CheckAnswers client trail (Err error) = ⊥

-- the session, of calls of its lease alone
abbrev pub AddsCheck : List ℕ → List Event → List Event → Result (Unit {0}) SessionErr → Type 0
AddsCheck client old new result = AddsTask IsLeaseEvent CheckAnswers client old new result

-- and how the trail and the target went on
abbrev pub CheckGoesOn : List ℕ → List Event → List Event → TargetNow → TargetNow → Type 0
CheckGoesOn client old new before after = GoesBy IsLeaseEvent client old new before after
