-- A whole sync, from its begin to its end, and why it answers as it does.
use Rattle.std.specs.Prelude.{ℕ, ◌≡◌, List, [], ◌∷◌, ◌++◌, Bool, true, false, Option, Some, None, Result, Ok, Err}
use Rattle.conflicts.specs.Reports.{new_report}
use Rattle.conflicts.specs.declared.report.SyncReport.{SyncReport}
use Rattle.download.specs.Emptied.{HeedsEmptied}
use Rattle.client.specs.Sites.{SiteNow, IsSameSite, IsTidy, written_down}
use Rattle.jop_outside.specs.Outside.{HasRisen}
use Rattle.jop_base.specs.declared.lock_name.LockKind.TheVariants.{Sync}
use Rattle.jop_base.specs.declared.path.Path.TheVariants.{Lock as LockFile}
use Rattle.jop_target.specs.Replies.{TargetNow}
use Rattle.jop_target.specs.Runs.{has_failed}
use Rattle.jop_target.specs.Trail.{LineNow}
use Rattle.jop_target.specs.declared.call.Call.TheVariants.{Delete}
use Rattle.jop_target.specs.declared.event.Event.{Event}
use Rattle.jop_target.specs.declared.event.Event.TheVariants.{Began, Called, Ended}
use Rattle.jop_target.specs.declared.reply.Reply.{Reply}
use Rattle.jop_target.specs.declared.reply.Reply.TheVariants.{Failed}
use Rattle.lease.specs.Calls.{Fails, GoesOn, LeaseGoesOn}
use Rattle.lease.specs.Discipline.{ends_released, phase_of}
use Rattle.lease.specs.Locks.{own_name}
use Rattle.lease.specs.Outcomes.{HasAcquired, HasMissed, IsBlocked}
use Rattle.lease.specs.Phase.{Phase}
use Rattle.lease.specs.WholeSession.{AddsBegun, AddsWhole}
use Rattle.lease.specs.Work.{NoneFailed}
use Rattle.lease.specs.declared.lease.Lease.{Lease}
use Rattle.lease.specs.declared.lock.Lock.{Lock}
use Rattle.law_kept.specs.Trails.{KeepsNotes}
use Rattle.law_licences.specs.Deeds.{deeds_of}
use Rattle.law_licences.specs.Licences.{MergesInfo, ObeysData}
use Rattle.law_licences.specs.Trails.{session_calls}
use Rattle.law_licences.specs.Sealing.{no_keys}
use Rattle.law_licences.specs.Views.{View, Working, at_rest}
use Rattle.keeper.specs.Keepers.{KeeperNow}
use Rattle.local_store.specs.declared.change.Change.{Change}
use Rattle.local_store.specs.declared.tables.Tables.{Tables}
use Rattle.session.specs.Agreeing.{AgreeBut}
use Rattle.session.specs.Steps.{IsStep}
use Rattle.session.specs.Work.{WorkNow, view_of, work}
use Rattle.target_upgrade.specs.Course.{KeepsVersions, course_of}
use Rattle.sync_run.specs.Sessions.{GoesBy, HasBegun}
use Rattle.sync_session.specs.Keys.{sealed_rows}
use Rattle.sync_session.specs.Leaving.{LeavesLease}
use Rattle.sync_session.specs.Ordering.{GivesDue}
use Rattle.sync_session.specs.Telling.{Tells, TellsWork}
use Rattle.sync_session.specs.Working.{SyncWorks, is_sync}
use Rattle.sync_session.specs.declared.sync_err.SyncErr.{SyncErr}
use Rattle.sync_session.specs.declared.sync_err.SyncErr.TheVariants.{Busy, LeaseLost, TargetFault, KeeperFault, NoMemory}

-- ---- why

-- The lease was had by its own calls alone, the work under it came to this, and then its lock was deleted, which is the
-- last call.
pub record HasLeftSync (client : List ℕ) (worked : Result (Unit {0}) SyncErr) (old new : SiteNow)
    : Type 0 where
  pub lease : Lease
  pub held : SiteNow
  pub had : HasAcquired Sync client held.line.trail lease
  pub begun : IsSameSite old held
  pub goes : LeaseGoesOn client old.line held.line
  pub late : WorkNow
  pub works : SyncWorks (work held lease new_report) worked late
  pub left : IsSameSite late.site new
  pub reply : Reply
  pub ends : new.line.trail
      ≡ late.site.line.trail ++ Called (Delete (LockFile (own_name Sync client))) reply ∷ []

-- the report, once the rows that are sealed are counted
abbrev pub with_locked : Tables → SyncReport → SyncReport
with_locked t r = record r { locked = sealed_rows t }

-- All was done, and the lock's delete was answered, and not by `Failed`. The report says what was
-- done, and the bytes of resources that the session has put or got are the target's.
pub record HasSynced (client : List ℕ) (report : SyncReport) (old new : SiteNow) : Type 0 where
  pub left : HasLeftSync client (Ok tt) old new
  pub heard : ¬ (left.reply ≡ Failed)
  pub reports : report ≡ with_locked left.late.site.tables left.late.report
  pub agrees : AgreeBut [] new

-- Each answer, by what its calls came to. Out of memory none of them was answered `Failed`.
abbrev pub SyncAnswers : List ℕ → SiteNow → Result SyncReport SyncErr → SiteNow → Type 0
SyncAnswers client old (Ok report) new = HasSynced client report old new
SyncAnswers client old (Err (Busy lock now)) new =
    IsBlocked Sync client new.line.trail lock now × IsSameSite old new
SyncAnswers client old (Err (LeaseLost seen)) new =
    (at : Phase) × HasMissed Sync client at new.line.trail seen
SyncAnswers client old (Err TargetFault) new = Fails client old.line new.line
SyncAnswers client old (Err KeeperFault) new =
    HasLeftSync client (Err KeeperFault) old new × HasRisen old.keeper.faults new.keeper.faults
SyncAnswers client old (Err NoMemory) new = NoneFailed old.line.trail new.line.trail
SyncAnswers client old (Err e) new = HasLeftSync client (Err e) old new

-- the calls have come to this, and the lock is released as far as can be known, but for want of
-- memory
abbrev pub IsSyncReleased : List ℕ → SiteNow → Result SyncReport SyncErr → SiteNow → Type 0
IsSyncReleased client old (Err NoMemory) new = SyncAnswers client old (Err NoMemory) new
IsSyncReleased client old result new =
    SyncAnswers client old result new × (ends_released (phase_of client new.line.trail) ≡ true)

-- a session ends with every answer but out of memory
abbrev pub has_ended_sync : Result SyncReport SyncErr → Bool
has_ended_sync (Err NoMemory) = false
has_ended_sync result = true

-- a session of the client has begun and has called nothing, and its tables are in order
pub record HasBegunSync (client : List ℕ) (d : SiteNow) : Type 0 where
  pub begun : HasBegun client d.line.trail
  pub calls : session_calls d.line.trail ≡ []
  pub tidy : IsTidy d

-- what is seen of a client with these tables, whose session has begun
abbrev pub begun_view : Tables → View
begun_view t = record {
  tables = t;
  calls = [];
  shown = None;
  stage = Working;
  sealing = no_keys;
}

-- a session has gone on by work of a sync, by changes and by its lease's calls, and has done under
-- its lease what is allowed
pub record SyncGoesOn (client : List ℕ) (old new : LineNow) : Type 0 where
  pub goes : GoesOn (IsStep is_sync client) client old new
  pub work : (course_of client new.trail).lawful ≡ true

-- the work under the lease came to this, and then the lease was given up, if it was held still
pub record EndsWork (lease : Lease) (old : SiteNow) (report : SyncReport)
    (result : Result (Unit {0}) SyncErr) (new : SiteNow) (after : SyncReport) : Type 0 where
  pub worked : Result (Unit {0}) SyncErr
  pub late : WorkNow
  pub works : SyncWorks (work old lease report) worked late
  pub leaves : LeavesLease late.lease worked late.site result new
  pub reported : late.report ≡ after
  pub goes : SyncGoesOn lease.client old.line new.line
  pub tells : TellsWork (GivesDue result) (view_of None old) old new

-- a session that had begun took its lease, synced under it and gave it up
pub record RunsSync (client : List ℕ) (old : SiteNow) (result : Result SyncReport SyncErr)
    (new : SiteNow) : Type 0 where
  pub released : IsSyncReleased client old result new
  pub goes : SyncGoesOn client old.line new.line
  pub tells : TellsWork (GivesDue result) (begun_view old.tables) old new

-- ---- the session

-- a client that has these
abbrev pub sited : List Event → TargetNow → KeeperNow → Tables → List Change → SiteNow
sited trail target keeper tables made = record {
  line = record { trail = trail; target = target };
  keeper = keeper;
  tables = tables;
  made = made;
}

-- once the session's begin is, and its end
abbrev pub begun_at : SiteNow → SiteNow
begun_at d = written_down Began d

abbrev pub ended_at : SiteNow → SiteNow
ended_at d = written_down Ended d

-- One session was added, of work of a sync, of changes, and of its lease's calls; it has ended.
pub record IsWholeSync (client : List ℕ) (old : SiteNow) (result : Result SyncReport SyncErr)
    (new : SiteNow) : Type 0 where
  pub tells : Tells (GivesDue result) (at_rest no_keys old.tables) old new
  pub whole : AddsWhole (IsStep is_sync client) client old.line.trail new.line.trail
  pub versions : KeepsVersions client (Began ∷ (whole.middle ++ Ended ∷ []))
  pub last : SiteNow
  pub ended : new ≡ ended_at last
  pub answers : SyncAnswers client (begun_at old) result last

-- Out of memory nothing was added, or such a session that hasn't ended. No call of it was answered
-- `Failed`: a failed call is never told as want of memory.
pub record IsOpenSync (client : List ℕ) (old new : SiteNow) : Type 0 where
  pub tells : Tells (GivesDue {R = SyncReport} (Err NoMemory)) (at_rest no_keys old.tables) old new
  pub begun : AddsBegun (IsStep is_sync client) client old.line.trail new.line.trail
  pub versions : KeepsVersions client begun.more
  pub heard : has_failed begun.more ≡ false

-- what a sync of a client adds, by its answer
abbrev pub AddsFrom : List ℕ → SiteNow → Result SyncReport SyncErr → SiteNow → Type 0
AddsFrom client old (Err NoMemory) new = IsOpenSync client old new
AddsFrom client old result new = IsWholeSync client old result new

-- ---- what it promises

-- a trail and a target went on by work of a sync and its lease's calls, and by begins and ends of sessions
abbrev pub GoesBySync : List ℕ → List Event → List Event → TargetNow → TargetNow → Type 0
GoesBySync client old new before after = GoesBy (IsStep is_sync) client old new before after

-- a client's line did
abbrev pub LineGoesBySync : List ℕ → LineNow → LineNow → Type 0
LineGoesBySync client old new = GoesBySync client old.trail new.trail old.target new.target

-- the lock that a busy answer names, and the moment at which it was live
abbrev pub blocked_by : Result SyncReport SyncErr → Option (Lock × ℕ)
blocked_by (Err (Busy lock now)) = Some (lock, now)
blocked_by result = None

-- what was added has its licences, from these tables on
abbrev pub LicensedFrom : Tables → List Event → List Event → List Change → List Change → Type 0
LicensedFrom t old new made changed =
    (added : List Event) (changes : List Change)
    → new ≡ old ++ added → changed ≡ made ++ changes
    → ObeysData (at_rest no_keys t) (deeds_of added changes)
    × MergesInfo (at_rest no_keys t) (deeds_of added changes)

-- Behind what looks like an emptied target, seen from these tables on, nothing was done but about
-- locks, and it is refused for it, unless memory ran out.
abbrev pub HeedsFrom : {R : Type 0} → Tables → Result R SyncErr → List Event → List Event →
    List Change → List Change → Type 0
HeedsFrom t result old new made changed =
    (added : List Event) (changes : List Change)
    → new ≡ old ++ added → changed ≡ made ++ changes
    → HeedsEmptied (GivesDue result) (at_rest no_keys t) (deeds_of added changes)

-- Then no saved note is lost, in whatever history this is the client's last run, if no other
-- upload of the note falls between a check and its write, and the other clients have their
-- licences too.
abbrev pub KeepsNotesIn : List ℕ → Tables → List Event → List Event → List Change →
    List Change → Type 0
KeepsNotesIn client t old new made changed =
    (added : List Event) (changes : List Change)
    → new ≡ old ++ added → changed ≡ made ++ changes → KeepsNotes client t added changes
