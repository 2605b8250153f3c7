-- A session from its begin to its end.
use Rattle.std.specs.Prelude.{◌≡◌, ℕ, List, ◌∷◌, [], ◌++◌, Bool, true, false, Result, Err}
use Rattle.jop_target.specs.declared.event.Event.{Event}
use Rattle.jop_target.specs.declared.event.Event.TheVariants.{Began, Ended}
use Rattle.jop_target.specs.Replies.{TargetNow}
use Rattle.jop_target.specs.Runs.{Continues, has_failed}
use Rattle.jop_target.specs.Trail.{LineNow}
use Rattle.lease.specs.Calls.{GoesOn}
use Rattle.lease.specs.Discipline.{ends_released, phase_of}
use Rattle.lease.specs.Phase.{Free}
use Rattle.lease.specs.Standing.{StandsIn}
use Rattle.lease.specs.WholeSession.{AddsBegun, AddsWhole}
use Rattle.lease.specs.Work.{NoneFailed}
use Rattle.lease.specs.declared.error.LeaseErr.{LeaseErr}
use Rattle.lease.specs.declared.error.LeaseErr.TheVariants as lease_errors
use Rattle.target_upgrade.specs.Course.{KeepsVersions, begun_course, course_of}
use Rattle.sync_run.specs.declared.session_err.SessionErr.{SessionErr}
use Rattle.sync_run.specs.declared.session_err.SessionErr.TheVariants.{Busy, LeaseLost, TargetFault, NoMemory}

-- ---- answers

abbrev pub session_err_of : LeaseErr → SessionErr
session_err_of (lease_errors.Busy lock now) = Busy lock now
session_err_of (lease_errors.Lost seen) = LeaseLost seen
session_err_of lease_errors.TargetFault = TargetFault
session_err_of lease_errors.NoMemory = NoMemory

-- a session ends with every answer but out of memory
abbrev pub has_ended : {T : Type 0} → Result T SessionErr → Bool
has_ended (Err NoMemory) = false
has_ended result = true

-- ---- a session that runs

-- a session has begun and has called nothing
pub record HasBegun (client : List ℕ) (trail : List Event) : Type 0 where
  pub stands : StandsIn client trail Free
  pub course : course_of client trail ≡ begun_course

-- The calls have come to this, and the lock is released as far as can be known; or memory ran out.
-- `Because` says of each answer why it is given.
abbrev pub IsReleased : {T : Type 0} → (List Event → Result T SessionErr → Type 0) → List ℕ →
    List Event → Result T SessionErr → Type 0
IsReleased Because client trail (Err NoMemory) = Unit {0}
IsReleased Because client trail result =
    Because trail result × (ends_released (phase_of client trail) ≡ true)

-- A session that had begun went on by such events, and did under its lease what is allowed.
pub record RunsOn (P : Event → Type 0) (client : List ℕ) (old new : LineNow) : Type 0 where
  pub goes : GoesOn P client old new
  pub work : (course_of client new.trail).lawful ≡ true

-- It answers what its calls have come to; or memory ran out, and none was answered `Failed`.
pub record EndsAs {T : Type 0} (answers : List ℕ → List Event → Result T SessionErr → Type 0)
    (client : List ℕ) (old new : List Event) (result : Result T SessionErr) : Type 0 where
  pub released : IsReleased (answers client) client new result
  pub heard : result ≡ Err NoMemory → NoneFailed old new

-- The session of a task went on by the calls of that task, and ends as it answers.
pub record RunsTask {T : Type 0} (calls : List ℕ → Event → Type 0)
    (answers : List ℕ → List Event → Result T SessionErr → Type 0) (client : List ℕ)
    (old new : LineNow) (result : Result T SessionErr) : Type 0 where
  pub on : RunsOn (calls client) client old new
  pub ends : EndsAs answers client old.trail new.trail result

-- ---- a session that was added

-- One session was added to the trail, which has ended with this answer; under its lease it did what
-- is allowed. It went on by events as `P` says.
pub record IsWholeSession {T : Type 0} (P : Event → Type 0)
    (Because : List Event → Result T SessionErr → Type 0) (client : List ℕ) (old new : List Event)
    (result : Result T SessionErr) : Type 0 where
  pub whole : AddsWhole P client old new
  pub work : KeepsVersions client (Began ∷ (whole.middle ++ Ended ∷ []))
  pub because : Because (old ++ Began ∷ whole.middle) result

-- Out of memory nothing was added, or such a session that hasn't ended. No call of it was answered
-- `Failed`: a failed call is never told as want of memory.
pub record IsOpen (P : Event → Type 0) (client : List ℕ) (old new : List Event) : Type 0 where
  pub begun : AddsBegun P client old new
  pub work : KeepsVersions client begun.more
  pub heard : has_failed begun.more ≡ false

abbrev pub AddsSession : {T : Type 0} → (Event → Type 0) →
    (List Event → Result T SessionErr → Type 0) → List ℕ → List Event → List Event →
    Result T SessionErr → Type 0
AddsSession P Because client old new (Err NoMemory) = IsOpen P client old new
AddsSession P Because client old new result = IsWholeSession P Because client old new result

-- an event as `P` says, or an end of the session
abbrev pub IsMarkOr : (Event → Type 0) → Event → Type 0
IsMarkOr P Began = Unit {0}
IsMarkOr P Ended = Unit {0}
IsMarkOr P event = P event

-- ---- a session of a task

-- the session was added, of the calls of its task
abbrev pub AddsTask : {T : Type 0} → (List ℕ → Event → Type 0) →
    (List ℕ → List Event → Result T SessionErr → Type 0) → List ℕ → List Event → List Event →
    Result T SessionErr → Type 0
AddsTask calls answers client old new result =
    AddsSession (calls client) (answers client) client old new result

-- A trail and a target went on by the calls of a task, and by begins and ends of sessions.
abbrev pub GoesBy : (List ℕ → Event → Type 0) → List ℕ → List Event → List Event → TargetNow →
    TargetNow → Type 0
GoesBy calls client old new before after =
    Continues (IsMarkOr (calls client)) (record { trail = old; target = before })
    (record { trail = new; target = after })

-- and did under the leases what is allowed, in a session that goes on
abbrev pub RunsBy : (List ℕ → Event → Type 0) → List ℕ → List Event → List Event → TargetNow →
    TargetNow → Type 0
RunsBy calls client old new before after =
    RunsOn (calls client) client (record { trail = old; target = before })
    (record { trail = new; target = after })
