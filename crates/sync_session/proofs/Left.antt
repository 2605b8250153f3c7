-- The lease is had, work is done under it, and it is given up.
use Rattle.std.specs.Prelude.{ℕ, ◌≤◌, ◌≡◌, List, [], ◌∷◌, ◌++◌, Bool, true, false, None, Result, Ok, Err, refl}
use Rattle.std.proofs.Common.{sym, ◌∙◌, ap, arith, subst, inl, inr}
use Rattle.conflicts.specs.Reports.{new_report}
use Rattle.client.specs.Sites.{SiteNow, IsSameSite}
use Rattle.conflicts.specs.declared.refusal.Refusal.{Refusal}
use Rattle.download.specs.Emptied.{HeedsBetween}
use Rattle.jop_base.specs.declared.lock_name.LockKind.{LockKind}
use Rattle.jop_base.specs.declared.lock_name.LockKind.TheVariants.{Sync}
use Rattle.jop_base.specs.declared.path.Path.TheVariants.{Lock as LockFile}
use Rattle.jop_target.specs.Trail.{LineNow}
use Rattle.jop_target.specs.declared.call.Call.TheVariants.{Delete}
use Rattle.jop_target.specs.declared.event.Event.{Event}
use Rattle.jop_target.specs.declared.event.Event.TheVariants.{Called}
use Rattle.jop_target.specs.declared.reply.Reply.{Reply}
use Rattle.jop_target.proofs.Runs.{continues_same}
use Rattle.lease.proofs.Sessions.{goes_leased, goes_on}
use Rattle.lease.proofs.Works.{none_failed}
use Rattle.lease.specs.Added.{Makes, acquire_calls}
use Rattle.lease.specs.Calls.{EndsFailed, Fails, LeaseGoesOn}
use Rattle.lease.specs.Discipline.{ends_released, phase_of, session_of}
use Rattle.lease.specs.Locks.{own_name}
use Rattle.lease.specs.Outcomes.{Acquires, HasAcquired, HasMissed, IsBlocked}
use Rattle.lease.specs.Phase.{Asked, Over, Renewing}
use Rattle.lease.specs.Standing.{IsSameBut, StandsIn}
use Rattle.lease.specs.declared.error.LeaseErr.{LeaseErr}
use Rattle.lease.specs.declared.error.LeaseErr.TheVariants as lease_errors
use Rattle.lease.specs.declared.error.Seen.{Seen}
use Rattle.lease.specs.declared.lease.Lease.{Lease}
use Rattle.lease.specs.declared.lock.Lock.{Lock}
use Rattle.law_licences.specs.Licences.{IsInside}
use Rattle.law_licences.specs.Views.{View}
use Rattle.session_opening.specs.Opening.{IsLawful, MergesBetween}
use Rattle.session.proofs.Asked.{calls_locks}
use Rattle.session.proofs.Leased.{step_of}
use Rattle.session.proofs.Recast.{unknown_fits}
use Rattle.session.proofs.Joins.{client_is, seen_between}
use Rattle.session.specs.Doing.{Went}
use Rattle.session.specs.Steps.{IsStep}
use Rattle.session.specs.Work.{MayBeShown, IsReady, WorkNow, view_of, work}
use Rattle.target_upgrade.proofs.Courses.{idle_work}
use Rattle.target_upgrade.specs.Course.{Course, course_of}
use Rattle.sync_session.proofs.Ordered.{left_given}
use Rattle.sync_session.proofs.Telling.{tells_also, tells_had, tells_left, tells_went}
use Rattle.sync_session.proofs.Worked.{works_here}
use Rattle.sync_session.specs.Errors.{of_lease}
use Rattle.sync_session.specs.Ordering.{GivesDue}
use Rattle.sync_session.specs.Telling.{TellsWork}
use Rattle.sync_session.specs.Leaving.{LeavesLease, LeavesIf, holds_lease}
use Rattle.sync_session.specs.Syncing.{EndsWork, HasBegunSync, HasLeftSync, IsSyncReleased, SyncGoesOn, begun_view}
use Rattle.sync_session.specs.Working.{SyncWorks, is_sync}
use Rattle.sync_session.specs.declared.sync_err.SyncErr.{SyncErr}
use Rattle.sync_session.specs.declared.sync_err.SyncErr.TheVariants.{Busy, LeaseLost, Refused, TargetFault, KeeperFault, NoMemory}

-- ---- what was done under the lease

pub went_worked : (a b : WorkNow) (result : Result (Unit {0}) SyncErr) → SyncWorks a result b
    → Went is_sync a b
went_worked a b (Ok done) h = h.0.went
went_worked a b (Err (LeaseLost seen)) h = h.0.went
went_worked a b (Err (Refused why)) h = h.went
went_worked a b (Err TargetFault) h = h.0.went
went_worked a b (Err KeeperFault) h = h.stops.went
went_worked a b (Err NoMemory) h = h.went
went_worked a b (Err (Busy lock now)) h = absurd h

-- it is held still, but when it was lost, the target failed, or memory ran out
pub held_worked : (a b : WorkNow) (result : Result (Unit {0}) SyncErr) → SyncWorks a result b
    → holds_lease result ≡ true → IsReady b.site b.lease
held_worked a b (Ok done) h holds = h.0.ready
held_worked a b (Err (LeaseLost seen)) h holds = absurd cc
held_worked a b (Err (Refused why)) h holds = h.ready
held_worked a b (Err TargetFault) h holds = absurd cc
held_worked a b (Err KeeperFault) h holds = h.ready
held_worked a b (Err NoMemory) h holds = absurd cc
held_worked a b (Err (Busy lock now)) h holds = absurd h

-- ---- how the session goes on

pub goes_worked : (a b : WorkNow) → Went is_sync a b → IsLawful b.lease b.site
    → SyncGoesOn a.lease.client a.site.line b.site.line
goes_worked a b w lawful = record {
  goes = w.goes;
  work = subst (λ (client : List ℕ). (course_of client b.site.line.trail).lawful ≡ true)
      (client_is a.lease b.lease w.same) lawful;
}

-- by calls of its lease
pub goes_idle : (client : List ℕ) (b c : LineNow)
    → (course_of client b.trail).lawful ≡ true → LeaseGoesOn client b c → SyncGoesOn client b c
goes_idle client b c lawful h = record {
  goes = goes_leased (IsStep is_sync client) client b c (step_of is_sync client) h;
  work = (idle_work client b.trail c.trail h.idle).lawful ∙ lawful;
}

pub sync_goes_on : (client : List ℕ) (a b c : LineNow) → SyncGoesOn client a b
    → SyncGoesOn client b c → SyncGoesOn client a c
sync_goes_on client a b c h k = record {
  goes = goes_on (IsStep is_sync client) client a b c h.goes k.goes;
  work = k.work;
}

left_if : (holds : Bool) (lease : Lease) (worked : Result (Unit {0}) SyncErr) (old : SiteNow)
    (result : Result (Unit {0}) SyncErr) (new : SiteNow)
    → (course_of lease.client old.line.trail).lawful ≡ true
    → (session_of lease.client old.line.trail).running ≡ true
    → (session_of lease.client old.line.trail).lawful ≡ true
    → LeavesIf holds lease worked old result new → SyncGoesOn lease.client old.line new.line
left_if true lease worked old result new lawful running locks h =
    goes_idle lease.client old.line new.line lawful h.goes
left_if false lease worked old result new lawful running locks h =
    subst (λ (d : SiteNow). SyncGoesOn lease.client old.line d.line) (sym h.1) (record {
      goes = record {
        running = running;
        lawful = locks;
        line = continues_same (IsStep is_sync lease.client) old.line;
      };
      work = lawful;
    })

-- work under the lease, and giving it up
pub goes_left : (a b : WorkNow) (worked result : Result (Unit {0}) SyncErr) (new : SiteNow)
    → SyncWorks a worked b → IsLawful b.lease b.site → LeavesLease b.lease worked b.site result new
    → SyncGoesOn a.lease.client a.site.line new.line
goes_left a b worked result new works lawful leaves =
    let went = went_worked a b worked works in
    let mine = client_is a.lease b.lease went.same in
    let first = goes_worked a b went lawful in
    let running = first.goes.running in
    let locks = first.goes.lawful in
    let left = left_if (holds_lease worked) b.lease worked b.site result new lawful
    (subst (λ (c : List ℕ). (session_of c b.site.line.trail).running ≡ true) (sym mine) running)
    (subst (λ (c : List ℕ). (session_of c b.site.line.trail).lawful ≡ true) (sym mine) locks)
    leaves in
    sync_goes_on a.lease.client a.site.line b.site.line new.line first
    (subst (λ (c : List ℕ). SyncGoesOn c b.site.line new.line) mine left)

told_if : (holds : Bool) (v : View) (a : SiteNow) (lease : Lease)
    (worked : Result (Unit {0}) SyncErr) (b : SiteNow) (result : Result (Unit {0}) SyncErr)
    (new : SiteNow) → IsInside v.stage
    → ((why : Refusal) → GivesDue worked why → GivesDue result why) → TellsWork (GivesDue worked) v a b
    → LeavesIf holds lease worked b result new → TellsWork (GivesDue result) v a new
told_if true v a lease worked b result new inside also h leaves =
    tells_left (GivesDue worked) (GivesDue result) lease.client v a b new inside also h leaves.same
    leaves.goes
told_if false v a lease worked b result new inside also h leaves =
    subst (λ (d : SiteNow). TellsWork (GivesDue result) v a d) (sym leaves.1)
    (tells_also (GivesDue worked) (GivesDue result) v a b also h)

pub tells_worked : (a b : WorkNow) (worked result : Result (Unit {0}) SyncErr) (new : SiteNow)
    → SyncWorks a worked b → MergesBetween a.site b.site
    → HeedsBetween (GivesDue worked) a.site b.site → MayBeShown a.known None
    → LeavesLease b.lease worked b.site result new
    → TellsWork (GivesDue result) (view_of None a.site) a.site new
tells_worked a b worked result new works merges heeds fits leaves =
    let went = went_worked a b worked works in
    told_if (holds_lease worked) (view_of None a.site) a.site b.lease worked b.site result new tt
    (left_given b.lease worked result b.site new leaves)
    (tells_went (GivesDue worked) is_sync a b fits went merges heeds) leaves

-- and then the lease is given up, if it is held still
pub ends_held : (a b : WorkNow) (worked result : Result (Unit {0}) SyncErr) (new : SiteNow)
    → SyncWorks a worked b → a.known ≡ None → b.known ≡ None → IsLawful b.lease b.site
    → MergesBetween a.site b.site → HeedsBetween (GivesDue worked) a.site b.site
    → LeavesLease b.lease worked b.site result new
    → EndsWork a.lease a.site a.report result new b.report
ends_held a b worked result new works before behind lawful merges heeds leaves = record {
  worked = worked;
  late = work b.site b.lease b.report;
  works = works_here a b worked before behind works;
  leaves = leaves;
  reported = refl;
  goes = goes_left a b worked result new works lawful leaves;
  tells =
      tells_worked a b worked result new works merges heeds (unknown_fits a.known None before)
      leaves;
}

pub lawful_begun : (client : List ℕ) (d : SiteNow) → HasBegunSync client d
    → (course_of client d.line.trail).lawful ≡ true
lawful_begun client d h = ap (λ (c : Course). c.lawful) h.begun.course

-- ---- there is no lease

pub over_released : (client : List ℕ) (trail : List Event) → StandsIn client trail Over
    → ends_released (phase_of client trail) ≡ true
over_released client trail over = ap ends_released over.phase

blocked_released : (client : List ℕ) (trail : List Event) (lock : Lock) (now : ℕ)
    → IsBlocked Sync client trail lock now → ends_released (phase_of client trail) ≡ true
blocked_released client trail lock now (inl once) = ap ends_released once.looked.phase
blocked_released client trail lock now (inr after) = over_released client trail after.left.over

pub released_none : (client : List ℕ) (old new : SiteNow) (e : LeaseErr) → IsSameSite old new
    → Acquires Sync client old.line new.line (Err e)
    → Makes {T = Lease} (acquire_calls Sync client) old.line.trail new.line.trail (Err e)
    → IsSyncReleased client old (Err (of_lease e)) new
released_none client old new (lease_errors.Busy lock now) same h made =
    ((h, same), blocked_released client new.line.trail lock now h)
released_none client old new (lease_errors.Lost seen) same h made =
    ((Asked Sync, h), over_released client new.line.trail h.left.over)
released_none client old new lease_errors.TargetFault same h made =
    (h, over_released client new.line.trail h.failed.over)
released_none client old new lease_errors.NoMemory same h made =
    none_failed (acquire_calls Sync client) made.0 old.line.trail new.line.trail made.1

-- ---- or none any more

-- from where the session began to where its lease was had
pub record HasTaken (client : List ℕ) (lease : Lease) (old held : SiteNow) : Type 0 where
  pub had : HasAcquired Sync client held.line.trail lease
  pub same : IsSameSite old held
  pub goes : LeaseGoesOn client old.line held.line

-- so it is by another name of the line
pub has_taken : (client : List ℕ) (lease : Lease) (old held : SiteNow) (s t : LineNow)
    → old.line ≡ s → held.line ≡ t → HasAcquired Sync client t.trail lease → IsSameSite old held
    → LeaseGoesOn client s t → HasTaken client lease old held
has_taken client lease old held s t o n had same goes = record {
  had = subst (λ (l : LineNow). HasAcquired Sync client l.trail lease) (sym n) had;
  same = same;
  goes = subst (λ (l : LineNow). LeaseGoesOn client l held.line) (sym o)
      (subst (λ (l : LineNow). LeaseGoesOn client s l) (sym n) goes);
}

pub own_client : (client : List ℕ) (lease : Lease) (old held : SiteNow)
    → HasTaken client lease old held → lease.client ≡ client
own_client client lease old held h = ap (λ (l : Lease). l.client) h.had.whole

pub own_kind : (client : List ℕ) (lease : Lease) (old held : SiteNow)
    → HasTaken client lease old held → lease.kind ≡ Sync
own_kind client lease old held h = ap (λ (l : Lease). l.kind) h.had.whole

-- the lease is had by what is allowed
pub lawful_taken : (client : List ℕ) (lease : Lease) (old held : SiteNow)
    → (course_of client old.line.trail).lawful ≡ true → HasTaken client lease old held
    → IsLawful lease held
lawful_taken client lease old held lawful h =
    subst (λ (c : List ℕ). (course_of c held.line.trail).lawful ≡ true)
    (sym (own_client client lease old held h))
    (goes_idle client old.line held.line lawful h.goes).work

pub goes_taken : (client : List ℕ) (lease : Lease) (old held new : SiteNow)
    → (course_of client old.line.trail).lawful ≡ true → HasTaken client lease old held
    → SyncGoesOn lease.client held.line new.line → SyncGoesOn client old.line new.line
goes_taken client lease old held new lawful h k =
    sync_goes_on client old.line held.line new.line
    (goes_idle client old.line held.line lawful h.goes)
    (subst (λ (c : List ℕ). SyncGoesOn c held.line new.line) (own_client client lease old held h) k)

pub tells_taken : (Given : Refusal → Type 0) (client : List ℕ) (lease : Lease)
    (old held new : SiteNow)
    → HasBegunSync client old → HasTaken client lease old held
    → TellsWork Given (view_of None held) held new
    → TellsWork Given (begun_view old.tables) old new
tells_taken Given client lease old held new begun h k =
    let calls = calls_locks client old held.line h.goes ∙ begun.calls in
    let same : view_of None held ≡ begun_view old.tables =
    seen_between (view_of None held) (begun_view old.tables) h.same.tables calls refl refl refl in
    tells_had Given client (begun_view old.tables) old held new tt refl h.same h.goes
    (subst (λ (v : View). TellsWork Given v held new) same k)

kind_is : (a b : Lease) → IsSameBut a b → b.kind ≡ a.kind
kind_is a b same = ap (λ (l : Lease). l.kind) same

pub missed_as : (client : List ℕ) (lease : Lease) (old held : SiteNow) (trail : List Event)
    (stamp : ℕ) (seen : Seen) → HasTaken client lease old held
    → HasMissed lease.kind lease.client (Renewing lease.kind stamp) trail seen
    → HasMissed Sync client (Renewing Sync stamp) trail seen
missed_as client lease old held trail stamp seen taken h =
    subst (λ (k : LockKind). HasMissed k client (Renewing k stamp) trail seen)
    (own_kind client lease old held taken)
    (subst (λ (c : List ℕ). HasMissed lease.kind c (Renewing lease.kind stamp) trail seen)
    (own_client client lease old held taken) h)

pub fails_as : (client other : List ℕ) (a b c : LineNow) → other ≡ client
    → a.target.faults ≤ b.target.faults → Fails other b c → Fails client a c
fails_as client other a b c same later h = record {
  failed = subst (λ (x : List ℕ). EndsFailed x c.trail) same h.failed;
  rose = let r = h.rose in omega arith;
}

-- behind work its lock was deleted
pub ends_as : (client : List ℕ) (lease : Lease) (old held : SiteNow) (late : WorkNow) (new : SiteNow)
    (reply : Reply) → HasTaken client lease old held → IsSameBut lease late.lease
    → new.line.trail ≡ late.site.line.trail
    ++ Called (Delete (LockFile (own_name late.lease.kind late.lease.client))) reply ∷ []
    → new.line.trail ≡ late.site.line.trail
    ++ Called (Delete (LockFile (own_name Sync client))) reply ∷ []
ends_as client lease old held late new reply taken same ends =
    let kind = kind_is lease late.lease same ∙ own_kind client lease old held taken in
    let mine = client_is lease late.lease same ∙ own_client client lease old held taken in
    subst (λ (k : LockKind). new.line.trail ≡ late.site.line.trail
    ++ Called (Delete (LockFile (own_name k client))) reply ∷ []) kind
    (subst (λ (c : List ℕ). new.line.trail ≡ late.site.line.trail
    ++ Called (Delete (LockFile (own_name late.lease.kind c))) reply ∷ []) mine ends)

abbrev pub has_left : (client : List ℕ) (lease : Lease) (worked : Result (Unit {0}) SyncErr)
    (old held : SiteNow) (late : WorkNow) (new : SiteNow) (reply : Reply)
    → HasTaken client lease old held → SyncWorks (work held lease new_report) worked late
    → IsSameSite late.site new
    → new.line.trail ≡ late.site.line.trail
    ++ Called (Delete (LockFile (own_name late.lease.kind late.lease.client))) reply ∷ []
    → HasLeftSync client worked old new
has_left client lease worked old held late new reply taken works same ends = record {
  lease = lease;
  held = held;
  had = taken.had;
  begun = taken.same;
  goes = taken.goes;
  late = late;
  works = works;
  left = same;
  reply = reply;
  ends = ends_as client lease old held late new reply taken
      (went_worked (work held lease new_report) late worked works).same ends;
}

pub over_late : (client : List ℕ) (lease : Lease) (old held : SiteNow) (late : WorkNow) (new : SiteNow)
    (worked : Result (Unit {0}) SyncErr) → HasTaken client lease old held
    → SyncWorks (work held lease new_report) worked late
    → StandsIn late.lease.client new.line.trail Over
    → ends_released (phase_of client new.line.trail) ≡ true
over_late client lease old held late new worked taken works over =
    let went = went_worked (work held lease new_report) late worked works in
    over_released client new.line.trail
    (subst (λ (c : List ℕ). StandsIn c new.line.trail Over)
    (client_is lease late.lease went.same ∙ own_client client lease old held taken) over)
