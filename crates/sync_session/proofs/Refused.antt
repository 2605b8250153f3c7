-- Why a sync gave nothing, by what its work and the release came to.
use Rattle.std.specs.Prelude.{ℕ, ◌≡◌, List, Bool, true, false, Result, Ok, Err, refl}
use Rattle.std.proofs.Common.{sym, ◌∙◌, arith, subst}
use Rattle.conflicts.specs.Reports.{new_report}
use Rattle.conflicts.specs.declared.report.SyncReport.{SyncReport}
use Rattle.client.specs.Sites.{SiteNow, IsSameSite}
use Rattle.jop_outside.specs.Outside.{HasRisen}
use Rattle.jop_base.specs.declared.lock_name.LockKind.TheVariants.{Sync}
use Rattle.jop_target.specs.declared.call.Call.{Call}
use Rattle.jop_target.specs.declared.event.Event.{Event}
use Rattle.jop_target.specs.declared.event.Event.TheVariants.{Began, Called, Ended, Made, Sent}
use Rattle.jop_target.specs.declared.reply.Reply.TheVariants.{Failed}
use Rattle.lease.proofs.NoFailures.{begins, none_failed_held, none_failed_on}
use Rattle.lease.proofs.Works.{none_failed}
use Rattle.lease.specs.Added.{Makes, leave_calls}
use Rattle.lease.specs.Calls.{GoesOn, IsLeaseEvent}
use Rattle.lease.specs.Discipline.{ends_released, phase_of}
use Rattle.lease.specs.Outcomes.{Releases}
use Rattle.lease.specs.Phase.{Renewing}
use Rattle.lease.specs.Work.{NoneFailed}
use Rattle.lease.specs.declared.error.LeaseErr.{LeaseErr}
use Rattle.lease.specs.declared.error.LeaseErr.TheVariants as lease_errors
use Rattle.lease.specs.declared.lease.Lease.{Lease}
use Rattle.keeper.specs.Keepers.{KeeperNow}
use Rattle.session.proofs.Joins.{client_is}
use Rattle.session.specs.Doing.{Went}
use Rattle.session.specs.Steps.{IsStep}
use Rattle.session.specs.Work.{IsReady, WorkNow, work}
use Rattle.sync_session.specs.Leaving.{LeavesLease, answer_once_left, holds_lease}
use Rattle.sync_session.specs.Syncing.{EndsWork, HasLeftSync, IsSyncReleased}
use Rattle.sync_session.specs.Working.{SyncWorks, is_sync}
use Rattle.sync_session.specs.declared.sync_err.SyncErr.{SyncErr}
use Rattle.sync_session.specs.declared.sync_err.SyncErr.TheVariants.{Busy, LeaseLost, Refused, TargetFault, KeeperFault, NoMemory}
use Rattle.sync_session.proofs.Left.{HasTaken, fails_as, has_left, held_worked, missed_as, over_late, over_released, own_client, went_worked}

-- ---- no call has failed

lease_begins : (client : List ℕ) (e : Event) → IsLeaseEvent client e → begins e ≡ false
lease_begins client (Sent call) h = refl
lease_begins client (Called call reply) h = refl
lease_begins client (Made number) h = absurd h
lease_begins client Began h = absurd h
lease_begins client Ended h = absurd h

step_begins : (sort : Call → Bool) (client : List ℕ) (e : Event) → IsStep sort client e
    → begins e ≡ false
step_begins sort client (Sent call) h = refl
step_begins sort client (Called call reply) h = refl
step_begins sort client (Made number) h = refl
step_begins sort client Began h = absurd h
step_begins sort client Ended h = absurd h

-- until the lease was had
unfailed_taken : (client : List ℕ) (lease : Lease) (old held : SiteNow)
    → HasTaken client lease old held → NoneFailed old.line.trail held.line.trail
unfailed_taken client lease old held h =
    none_failed_held (IsLeaseEvent client) lease old.line held.line (lease_begins client)
    (subst (λ (c : List ℕ). GoesOn (IsLeaseEvent client) c old.line held.line)
    (sym (own_client client lease old held h))
    (record { running = h.goes.running; lawful = h.goes.lawful; line = h.goes.line }))
    h.had.fresh.held

-- nor under it, as long as it is held
unfailed_held : (a b : WorkNow) → Went is_sync a b → IsReady b.site b.lease
    → NoneFailed a.site.line.trail b.site.line.trail
unfailed_held a b went ready =
    let client = a.lease.client in
    none_failed_held (IsStep is_sync client) b.lease a.site.line b.site.line
    (step_begins is_sync client)
    (subst (λ (c : List ℕ). GoesOn (IsStep is_sync client) c a.site.line b.site.line)
    (sym (client_is a.lease b.lease went.same)) went.goes)
    ready.held

-- memory ran out when the lease was given up, which was held still
unfailed_given : (client : List ℕ) (lease : Lease) (old held : SiteNow) (late : WorkNow)
    (new : SiteNow) (worked : Result (Unit {0}) SyncErr) → HasTaken client lease old held
    → SyncWorks (work held lease new_report) worked late → holds_lease worked ≡ true
    → Makes {T = Unit {0}} (leave_calls late.lease.kind late.lease.client)
    late.site.line.trail new.line.trail (Err lease_errors.NoMemory)
    → NoneFailed old.line.trail new.line.trail
unfailed_given client lease old held late new worked taken works holds made =
    let a = work held lease new_report in
    none_failed_on old.line.trail late.site.line.trail new.line.trail
    (none_failed_on old.line.trail held.line.trail late.site.line.trail
    (unfailed_taken client lease old held taken)
    (unfailed_held a late (went_worked a late worked works)
    (held_worked a late worked works holds)))
    (none_failed (leave_calls late.lease.kind late.lease.client) made.0 late.site.line.trail
    new.line.trail made.1)

-- what a session answers that ended so, whatever else is known
refused_as : (client : List ℕ) (old : SiteNow) (late : WorkNow) (new : SiteNow) (e f : SyncErr)
    (worked result : Result (Unit {0}) SyncErr) → worked ≡ Err f → result ≡ Err e
    → (result ≡ worked) × (new ≡ late.site) → IsSyncReleased client old (Err f) late.site
    → IsSyncReleased client old (Err e) new
refused_as client old late new e f worked result is ended h k =
    let as_worked = h.0 in
    let same : f ≡ e = cc in
    subst (λ (d : SiteNow). IsSyncReleased client old (Err e) d) (sym h.1)
    (subst (λ (x : SyncErr). IsSyncReleased client old (Err x) late.site) same k)

-- its work was refused while the lease was held, which was then given up
given_up : (client : List ℕ) (lease : Lease) (old held : SiteNow) (late : WorkNow) (new : SiteNow)
    (e f : SyncErr) (released : Result (Unit {0}) LeaseErr) → HasTaken client lease old held
    → SyncWorks (work held lease new_report) (Err f) late
    → Releases late.lease late.site.line new.line released → IsSameSite late.site new
    → Makes (leave_calls late.lease.kind late.lease.client) late.site.line.trail new.line.trail
    released
    → holds_lease (Err f) ≡ true
    → (result : Result (Unit {0}) SyncErr) → result ≡ Err e
    → result ≡ answer_once_left released (Err f)
    → (HasLeftSync client (Err f) old new → ends_released (phase_of client new.line.trail) ≡ true
    → IsSyncReleased client old (Err f) new)
    → IsSyncReleased client old (Err e) new
given_up client lease old held late new e f (Ok done) taken works gives same made holds
    result ended is left =
    let it : f ≡ e = cc in
    subst (λ (x : SyncErr). IsSyncReleased client old (Err x) new) it
    (left
    (has_left client lease (Err f) old held late new gives.reply taken works same gives.trail)
    (over_late client lease old held late new (Err f) taken works gives.over))
given_up client lease old held late new e f (Err lease_errors.TargetFault) taken works gives same
    made holds result ended is left =
    let it : f ≡ e = cc in
    subst (λ (x : SyncErr). IsSyncReleased client old (Err x) new) it
    (left (has_left client lease (Err f) old held late new Failed taken works same gives.trail)
    (over_late client lease old held late new (Err f) taken works gives.fails.failed.over))
given_up client lease old held late new e f (Err lease_errors.NoMemory) taken works gives same
    made holds result ended is left =
    let it : NoMemory ≡ e = cc in
    subst (λ (x : SyncErr). IsSyncReleased client old (Err x) new) it
    (unfailed_given client lease old held late new (Err f) taken works holds made)
given_up client lease old held late new e f (Err (lease_errors.Busy lock now)) taken works gives
    same made holds result ended is left =
    absurd gives
given_up client lease old held late new e f (Err (lease_errors.Lost seen)) taken works gives same
    made holds result ended is left =
    absurd gives

-- only a release that failed is a fault then
done_then_failed : (client : List ℕ) (lease : Lease) (old held : SiteNow) (late : WorkNow)
    (new : SiteNow) (e : SyncErr) (released : Result (Unit {0}) LeaseErr)
    → HasTaken client lease old held → SyncWorks (work held lease new_report) (Ok tt) late
    → Releases late.lease late.site.line new.line released
    → Makes (leave_calls late.lease.kind late.lease.client) late.site.line.trail new.line.trail
    released
    → (result : Result (Unit {0}) SyncErr) → result ≡ Err e
    → result ≡ answer_once_left released (Ok tt)
    → IsSyncReleased client old (Err e) new
done_then_failed client lease old held late new e (Ok done) taken works gives made result
    ended is =
    absurd cc
done_then_failed client lease old held late new e (Err lease_errors.TargetFault) taken works gives
    made result ended is =
    let it : TargetFault ≡ e = cc in
    let went = works.0.went in
    let fails = fails_as client late.lease.client old.line late.site.line new.line
    (client_is lease late.lease went.same ∙ own_client client lease old held taken)
    (omega (arith, taken.goes.line.later, went.goes.line.later)) gives.fails in
    subst (λ (x : SyncErr). IsSyncReleased client old (Err x) new) it
    (fails, over_released client new.line.trail fails.failed.over)
done_then_failed client lease old held late new e (Err lease_errors.NoMemory) taken works gives
    made result ended is =
    let it : NoMemory ≡ e = cc in
    subst (λ (x : SyncErr). IsSyncReleased client old (Err x) new) it
    (unfailed_given client lease old held late new (Ok tt) taken works refl made)
done_then_failed client lease old held late new e (Err (lease_errors.Busy lock now)) taken works
    gives made result ended is =
    absurd gives
done_then_failed client lease old held late new e (Err (lease_errors.Lost seen)) taken works gives
    made result ended is =
    absurd gives

keeper_rose : (client : List ℕ) (lease : Lease) (old held : SiteNow) (late : WorkNow)
    (new : SiteNow) → HasTaken client lease old held
    → SyncWorks (work held lease new_report) (Err KeeperFault) late → IsSameSite late.site new
    → HasRisen old.keeper.faults new.keeper.faults
keeper_rose client lease old held late new taken works same =
    subst (λ (k : KeeperNow). HasRisen old.keeper.faults k.faults) (sym same.keeper)
    (subst (λ (k : KeeperNow). HasRisen k.faults late.site.keeper.faults) taken.same.keeper
    works.rose)

-- by what the work came to
released_by : (client : List ℕ) (lease : Lease) (old held : SiteNow) (late : WorkNow)
    (new : SiteNow) (e : SyncErr) (worked result : Result (Unit {0}) SyncErr)
    → result ≡ Err e → HasTaken client lease old held
    → SyncWorks (work held lease new_report) worked late
    → LeavesLease late.lease worked late.site result new
    → IsSyncReleased client old (Err e) new
released_by client lease old held late new e (Ok done) result ended taken works leaves =
    done_then_failed client lease old held late new e leaves.released taken works leaves.gives
    leaves.calls result ended leaves.is
released_by client lease old held late new e (Err (Busy lock now)) result ended taken works leaves =
    absurd works
released_by client lease old held late new e (Err (LeaseLost seen)) result ended taken works leaves
    =
    let missed = missed_as client lease old held late.site.line.trail works.1.0 seen taken works.1.1
    in
    refused_as client old late new e (LeaseLost seen) (Err (LeaseLost seen)) result refl ended leaves
    ((Renewing Sync works.1.0, missed), over_released client late.site.line.trail missed.left.over)
released_by client lease old held late new e (Err TargetFault) result ended taken works leaves =
    let fails = fails_as client lease.client old.line held.line late.site.line
    (own_client client lease old held taken) taken.goes.line.later works.1 in
    refused_as client old late new e TargetFault (Err TargetFault) result refl ended leaves
    (fails, over_released client late.site.line.trail fails.failed.over)
released_by client lease old held late new e (Err NoMemory) result ended taken works leaves =
    refused_as client old late new e NoMemory (Err NoMemory) result refl ended leaves
    (none_failed_on old.line.trail held.line.trail late.site.line.trail
    (unfailed_taken client lease old held taken) works.heard)
released_by client lease old held late new e (Err KeeperFault) result ended taken works leaves =
    given_up client lease old held late new e KeeperFault leaves.released taken works leaves.gives
    leaves.same leaves.calls refl result ended leaves.is
    (λ left released.
    ((left, keeper_rose client lease old held late new taken works leaves.same), released))
released_by client lease old held late new e (Err (Refused why)) result ended taken works leaves =
    given_up client lease old held late new e (Refused why) leaves.released taken works
    leaves.gives leaves.same leaves.calls refl result ended leaves.is
    (λ left released. (left, released))

-- a report that is new
pub ends_from : (lease : Lease) (old : SiteNow) (report other : SyncReport)
    (result : Result (Unit {0}) SyncErr) (new : SiteNow) (after : SyncReport) → report ≡ other
    → EndsWork lease old report result new after → EndsWork lease old other result new after
ends_from lease old report other result new after same h =
    subst (λ (r : SyncReport). EndsWork lease old r result new after) same h

pub released_work : (client : List ℕ) (lease : Lease) (old held new : SiteNow) (e : SyncErr)
    (after : SyncReport) (result : Result (Unit {0}) SyncErr) → result ≡ Err e
    → HasTaken client lease old held → EndsWork lease held new_report result new after
    → IsSyncReleased client old (Err e) new
released_work client lease old held new e after result ended taken h =
    released_by client lease old held h.late new e h.worked result ended taken h.works h.leaves
