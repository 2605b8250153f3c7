-- What a sync comes to when all was done under its lease.
use Rattle.std.specs.Prelude.{ℕ, ◌≡◌, List, Bool, true, false, Result, Ok, Err}
use Rattle.std.proofs.Common.{sym, ◌∙◌, ap}
use Rattle.conflicts.specs.Reports.{new_report}
use Rattle.conflicts.specs.declared.report.SyncReport.{SyncReport}
use Rattle.client.specs.Sites.{SiteNow, IsSameSite}
use Rattle.lease.specs.Calls.{LeaseGoesOn}
use Rattle.lease.specs.Outcomes.{Releases}
use Rattle.lease.specs.declared.error.LeaseErr.{LeaseErr}
use Rattle.lease.specs.declared.error.LeaseErr.TheVariants as lease_errors
use Rattle.lease.specs.declared.lease.Lease.{Lease}
use Rattle.local_store.specs.declared.tables.Tables.{Tables}
use Rattle.session.proofs.Agreeing.{agrees_leased}
use Rattle.session.proofs.Asked.{calls_locks}
use Rattle.session.specs.Work.{WorkNow, work}
use Rattle.sync_session.specs.Keys.{sealed_rows}
use Rattle.sync_session.specs.Leaving.{LeavesLease, LeavesIf, answer_once_left, holds_lease}
use Rattle.sync_session.specs.Syncing.{EndsWork, IsSyncReleased, with_locked}
use Rattle.sync_session.specs.Working.{SyncWorks}
use Rattle.sync_session.specs.declared.sync_err.SyncErr.{SyncErr}
use Rattle.sync_session.specs.declared.sync_err.SyncErr.TheVariants.{Busy, LeaseLost, Refused, TargetFault, KeeperFault, NoMemory}
use Rattle.sync_session.proofs.Left.{HasTaken, has_left, over_late}

-- the lock was deleted behind work that was done
given_back : (client : List ℕ) (lease : Lease) (old held : SiteNow) (late : WorkNow) (new : SiteNow)
    (report : SyncReport) (released : Result (Unit {0}) LeaseErr) → HasTaken client lease old held
    → SyncWorks (work held lease new_report) (Ok tt) late
    → Releases late.lease late.site.line new.line released
    → LeaseGoesOn late.lease.client late.site.line new.line → IsSameSite late.site new
    → (result : Result (Unit {0}) SyncErr) → result ≡ Ok tt → result ≡ answer_once_left released (Ok tt)
    → report ≡ with_locked late.site.tables late.report
    → IsSyncReleased client old (Ok report) new
given_back client lease old held late new report (Ok done) taken works gives goes same result ended is reports = (
  record {
    left = has_left client lease (Ok tt) old held late new gives.reply taken works same gives.trail;
    heard = gives.heard;
    reports = reports;
    agrees = agrees_leased late.lease.client late.site new same goes.line
        (calls_locks late.lease.client late.site new.line goes) works.1.1;
  },
  over_late client lease old held late new (Ok tt) taken works gives.over,
)
given_back client lease old held late new report (Err lease_errors.TargetFault) taken works gives
    goes same result ended is reports =
    absurd cc
given_back client lease old held late new report (Err lease_errors.NoMemory) taken works gives goes
    same result ended is reports =
    absurd cc
given_back client lease old held late new report (Err (lease_errors.Busy lock now)) taken works
    gives goes same result ended is reports =
    absurd gives
given_back client lease old held late new report (Err (lease_errors.Lost seen)) taken works gives
    goes same result ended is reports =
    absurd gives

-- a session whose work was refused doesn't go well
never_well : {P : Type 0} (f : SyncErr) (released : Result (Unit {0}) LeaseErr)
    (result : Result (Unit {0}) SyncErr) → result ≡ Ok tt → result ≡ answer_once_left released (Err f) → P
never_well f (Ok done) result ended is = absurd cc
never_well f (Err lease_errors.TargetFault) result ended is = absurd cc
never_well f (Err lease_errors.NoMemory) result ended is = absurd cc
never_well f (Err (lease_errors.Busy lock now)) result ended is = absurd cc
never_well f (Err (lease_errors.Lost seen)) result ended is = absurd cc

-- by what the work came to
synced_by : (client : List ℕ) (lease : Lease) (old held : SiteNow) (late : WorkNow)
    (new : SiteNow) (report : SyncReport) (worked result : Result (Unit {0}) SyncErr)
    → result ≡ Ok tt → HasTaken client lease old held
    → SyncWorks (work held lease new_report) worked late
    → LeavesLease late.lease worked late.site result new
    → report ≡ with_locked late.site.tables late.report
    → IsSyncReleased client old (Ok report) new
synced_by client lease old held late new report (Ok done) result ended taken works leaves reports =
    given_back client lease old held late new report leaves.released taken works leaves.gives
    leaves.goes leaves.same result ended leaves.is reports
synced_by client lease old held late new report (Err (Busy lock now)) result ended taken works
    leaves reports =
    absurd works
synced_by client lease old held late new report (Err (LeaseLost seen)) result ended taken works
    leaves reports =
    let is = leaves.0 in absurd cc
synced_by client lease old held late new report (Err TargetFault) result ended taken works leaves
    reports =
    let is = leaves.0 in absurd cc
synced_by client lease old held late new report (Err NoMemory) result ended taken works leaves
    reports =
    let is = leaves.0 in absurd cc
synced_by client lease old held late new report (Err KeeperFault) result ended taken works leaves
    reports =
    never_well KeeperFault leaves.released result ended leaves.is
synced_by client lease old held late new report (Err (Refused why)) result ended taken works leaves
    reports =
    never_well (Refused why) leaves.released result ended leaves.is

-- giving the lease up changes no tables
tables_left : (lease : Lease) (worked : Result (Unit {0}) SyncErr) (old : SiteNow)
    (result : Result (Unit {0}) SyncErr) (new : SiteNow) (holds : Bool)
    → LeavesIf holds lease worked old result new → new.tables ≡ old.tables
tables_left lease worked old result new true h = h.same.tables
tables_left lease worked old result new false h = ap (λ (d : SiteNow). d.tables) h.1

-- the report with the rows that are sealed
pub counted_locked : (after : SyncReport) (count : ℕ) (t u : Tables) → count ≡ sealed_rows t
    → t ≡ u → record after { locked = count } ≡ with_locked u after
counted_locked after count t u counted same =
    ap (λ (n : ℕ). record after { locked = n })
    (counted ∙ ap (λ (x : Tables). sealed_rows x) same)

pub released_done : (client : List ℕ) (lease : Lease) (old held new : SiteNow)
    (after report : SyncReport) (result : Result (Unit {0}) SyncErr) → result ≡ Ok tt
    → HasTaken client lease old held → EndsWork lease held new_report result new after
    → report ≡ with_locked new.tables after
    → IsSyncReleased client old (Ok report) new
released_done client lease old held new after report result ended taken h reports =
    synced_by client lease old held h.late new report h.worked result ended taken h.works h.leaves
    (reports
    ∙ (ap (λ (t : Tables). with_locked t after)
    (tables_left h.late.lease h.worked h.late.site result new (holds_lease h.worked) h.leaves)
    ∙ ap (λ (r : SyncReport). with_locked h.late.site.tables r) (sym h.reported)))
