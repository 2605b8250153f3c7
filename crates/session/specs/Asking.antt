-- What a call leaves that a part of a session makes.
use Rattle.std.specs.Prelude.{ℕ, ◌≡◌, ◌⊎◌, Bool, true, false, List, length, Option, Some, None, Result, Ok, Err}
use Rattle.conflicts.specs.declared.error.StepErr.{StepErr}
use Rattle.conflicts.specs.declared.error.StepErr.TheVariants.{Lost, TargetFault, NoMemory}
use Rattle.conflicts.specs.declared.report.SyncReport.{SyncReport}
use Rattle.client.specs.Sites.{SiteNow}
use Rattle.jop_target.specs.Replies.{IsBlobOf, IsCallable, IsReplyTo, contents_in}
use Rattle.jop_target.specs.Trail.{EndsWith}
use Rattle.jop_target.specs.declared.call.Call.{Call}
use Rattle.jop_target.specs.declared.reply.Reply.{Reply}
use Rattle.jop_target.specs.declared.reply.Reply.TheVariants.{Failed, GotBlob}
use Rattle.lease.specs.Idle.{is_working}
use Rattle.lease.specs.Phase.{role_of}
use Rattle.lease.specs.declared.error.LeaseErr.{LeaseErr}
use Rattle.lease.specs.declared.error.LeaseErr.TheVariants as lease_errors
use Rattle.lease.specs.declared.lease.Lease.{Lease}
use Rattle.law_licences.specs.Licences.{MayCall}
use Rattle.law_licences.specs.Trails.{session_calls}
use Rattle.law_licences.specs.Views.{Shown, Working, is_about_locks, with_call}
use Rattle.session.specs.Agreeing.{IsKeptFor}
use Rattle.session.specs.Doing.{DoesTo, GivesNothing}
use Rattle.session.specs.Parts.{Hears}
use Rattle.session.specs.Reported.{report_after}
use Rattle.session.specs.Saving.{got_by}
use Rattle.session.specs.Work.{WorkPlace, view_of, work_by}

-- a reply that fits the call, and isn't that it failed
abbrev pub IsAnswer : Call → Reply → Type 0
IsAnswer call reply = IsReplyTo call reply × ¬ (reply ≡ Failed)

-- If the call got bytes of a resource, these are as many as its reply tells, and are the target's,
-- if it tells.
abbrev pub AreBytesOf : SiteNow → Call → List ℕ → Type 0
AreBytesOf d call bytes =
    (now len : ℕ) → EndsWith d.line.trail call (GotBlob now len)
    → (len ≡ length bytes) × IsBlobOf (contents_in d.line.target.store) call bytes

-- A call that a part of a session may make under this lease: it is work, it isn't about locks, and it has its licence,
-- whatever the session was shown. If it puts the bytes of a resource, these are those that are kept.
pub record IsAskable (call : Call) (bytes : List ℕ) (d : SiteNow) (lease : Lease) : Type 0 where
  pub working : is_working (role_of lease.client call) ≡ true
  pub about : is_about_locks call ≡ false
  pub callable : IsCallable call bytes
  pub kept : IsKeptFor d.keeper.kept call bytes
  pub may : (shown : Option Shown) → MayCall (view_of shown d) call

-- The call, with whichever of these replies it has, is a part of a session that has these reports before and after it,
-- by whatever references. If it got bytes, they are still to be saved.
abbrev pub IsHeardBy : (Call → Bool) → Call → SiteNow → Lease → SiteNow → Lease → Type 0
IsHeardBy sort call old before new after =
    (place : WorkPlace) (reply : Reply) (r s : SyncReport) → EndsWith new.line.trail call reply
    → ((shown : Option Shown) → s ≡ report_after (view_of shown old) r call (Some reply))
    → DoesTo Working (got_by call reply) (Hears call reply) sort (work_by place None old before r)
    (work_by place None new after s)

-- the call was answered last, and not by `Failed`
pub record HasAnswer (call : Call) (old : SiteNow) (before : Lease) (new : SiteNow) (after : Lease)
    (got : List ℕ) : Type 0 where
  pub reply : Reply
  pub ends : EndsWith new.line.trail call reply
  pub answer : IsAnswer call reply
  pub bytes : AreBytesOf new call got
  pub heard : (sort : Call → Bool) → sort call ≡ true → IsHeardBy sort call old before new after

-- each answer, by its cause
abbrev pub AsksUnderLease : Call → SiteNow → Lease → Result (Unit {0}) StepErr → SiteNow → Lease →
    List ℕ → Type 0
AsksUnderLease call old before (Ok done) new after got = HasAnswer call old before new after got
AsksUnderLease call old before (Err e) new after got =
    (sort : Call → Bool) (place : WorkPlace) (r : SyncReport) → sort call ≡ true
    → GivesNothing sort (work_by place None old before r) e (work_by place None new after r)

-- why a part gives nothing whose call under the lease gave nothing
abbrev pub step_of_lease : LeaseErr → StepErr
step_of_lease (lease_errors.Lost seen) = Lost seen
step_of_lease lease_errors.TargetFault = TargetFault
step_of_lease lease_errors.NoMemory = NoMemory
step_of_lease (lease_errors.Busy lock now) = TargetFault

-- ---- a call in vain

-- The call wasn't made, or had no answer but `Failed`. Else only calls about locks were made.
abbrev pub IsAskedInVain : Call → SiteNow → SiteNow → Type 0
IsAskedInVain call old new =
    let before = session_calls old.line.trail in
    let after = session_calls new.line.trail in
    (after ≡ before)
    ⊎ ((after ≡ with_call call None before) ⊎ (after ≡ with_call call (Some Failed) before))

-- a call that gave nothing was asked in vain
abbrev pub AsksOnce : Call → SiteNow → Result (Unit {0}) StepErr → SiteNow → Type 0
AsksOnce call old (Ok done) new = Unit {0}
AsksOnce call old (Err e) new = IsAskedInVain call old new
