-- A session that had begun, by what came of its lock and of its work.
use Rattle.std.specs.Prelude.{ℕ, ◌≡◌, List, Result, Ok, Err, refl}
use Rattle.std.proofs.Common.{sym, ◌∙◌, subst}
use Rattle.conflicts.specs.Reports.{new_report}
use Rattle.conflicts.specs.declared.report.SyncReport.{SyncReport}
use Rattle.client.specs.Sites.{SiteNow, IsSameSite}
use Rattle.jop_base.specs.declared.lock_name.LockKind.TheVariants.{Sync}
use Rattle.jop_target.specs.Trail.{LineNow}
use Rattle.lease.specs.Added.{Makes, acquire_calls}
use Rattle.lease.specs.Calls.{LeaseGoesOn}
use Rattle.lease.specs.Outcomes.{Acquires}
use Rattle.lease.specs.declared.error.LeaseErr.{LeaseErr}
use Rattle.lease.specs.declared.lease.Lease.{Lease}
use Rattle.session.proofs.Asked.{calls_locks}
use Rattle.session.proofs.Leased.{tidy-same}
use Rattle.sync_session.proofs.Done.{released_done}
use Rattle.sync_session.proofs.Left.{HasTaken, goes_idle, goes_taken, lawful_begun, lawful_taken, own_kind, released_none, tells_taken}
use Rattle.sync_session.proofs.Refused.{ends_from, released_work}
use Rattle.sync_session.proofs.Telling.{tells_locks}
use Rattle.sync_session.specs.Errors.{of_lease}
use Rattle.sync_session.specs.Ordering.{GivesDue}
use Rattle.sync_session.specs.Syncing.{AddsFrom, EndsWork, HasBegunSync, LineGoesBySync, RunsSync, begun_view, with_locked}
use Rattle.sync_session.specs.Working.{StartsSync}
use Rattle.sync_session.specs.declared.sync_err.SyncErr.{SyncErr}

-- ---- no lock was had

-- what came of taking it
pub record HasTried (client : List ℕ) (old new : LineNow) (e : LeaseErr) : Type 0 where
  pub gives : Acquires Sync client old new (Err e)
  pub calls : Makes {T = Lease} (acquire_calls Sync client) old.trail new.trail (Err e)
  pub goes : LeaseGoesOn client old new

pub runs_none : (client : List ℕ) (old new : SiteNow) (s t : LineNow) (e : LeaseErr)
    → old.line ≡ s → new.line ≡ t → HasBegunSync client old → IsSameSite old new
    → HasTried client s t e → RunsSync client old (Err (of_lease e)) new
runs_none client old new s t e o n begun same tried =
    let h : HasTried client old.line new.line e =
    subst (λ (l : LineNow). HasTried client l new.line e) (sym o)
    (subst (λ (l : LineNow). HasTried client s l e) (sym n) tried) in
    record {
      released = released_none client old new e same h.gives h.calls;
      goes = goes_idle client old.line new.line (lawful_begun client old begun) h.goes;
      tells = (tells_locks (GivesDue {R = SyncReport} (Err (of_lease e))) client
          (begun_view old.tables) old new tt same h.goes (λ count is. absurd cc)).work;
    }

-- ---- it was had

pub starts_taken : (client : List ℕ) (lease : Lease) (old held : SiteNow)
    → HasBegunSync client old → HasTaken client lease old held → StartsSync held lease
starts_taken client lease old held begun taken = record {
  ready = record {
    tidy = tidy-same old held taken.same begun.tidy;
    held = taken.had.fresh.held;
  };
  sync = own_kind client lease old held taken;
  lawful = lawful_taken client lease old held (lawful_begun client old begun) taken;
  first = calls_locks client old held.line taken.goes ∙ begun.calls;
}

-- its work was refused, or its release
pub runs_refused : (client : List ℕ) (lease : Lease) (old held new : SiteNow)
    (report after : SyncReport) (e : SyncErr) → report ≡ new_report → HasBegunSync client old
    → HasTaken client lease old held → EndsWork lease held report (Err e) new after
    → RunsSync client old (Err e) new
runs_refused client lease old held new report after e is begun taken h = record {
  released = released_work client lease old held new e after (Err e) refl taken
      (ends_from lease held report new_report (Err e) new after is h);
  goes = goes_taken client lease old held new (lawful_begun client old begun) taken h.goes;
  tells = tells_taken (GivesDue {R = SyncReport} (Err e)) client lease old held new begun taken h.tells;
}

-- all was done
pub runs_done : (client : List ℕ) (lease : Lease) (old held new : SiteNow)
    (report after counted : SyncReport) → report ≡ new_report → HasBegunSync client old
    → HasTaken client lease old held → EndsWork lease held report (Ok tt) new after
    → counted ≡ with_locked new.tables after → RunsSync client old (Ok counted) new
runs_done client lease old held new report after counted is begun taken h reports = record {
  released = released_done client lease old held new after counted (Ok tt) refl taken
      (ends_from lease held report new_report (Ok tt) new after is h) reports;
  goes = goes_taken client lease old held new (lawful_begun client old begun) taken h.goes;
  tells = tells_taken (GivesDue (Ok counted)) client lease old held new begun taken h.tells;
}

-- by other names of what stands behind it
pub is_site : (a b : SiteNow) → a.line.trail ≡ b.line.trail → a.line.target ≡ b.line.target
    → a.keeper ≡ b.keeper → a.tables ≡ b.tables → a.made ≡ b.made → a ≡ b
is_site a b trail target keeper tables made = λ i. record {
  line = record { trail = trail i; target = target i };
  keeper = keeper i;
  tables = tables i;
  made = made i;
}

pub adds_as : (client : List ℕ) (old new same : SiteNow) (result : Result SyncReport SyncErr)
    → AddsFrom client old result new → new ≡ same → AddsFrom client old result same
adds_as client old new same result h is = subst (AddsFrom client old result) is h

pub line_as : (client : List ℕ) (old : LineNow) (new same : SiteNow)
    → LineGoesBySync client old new.line → new ≡ same → LineGoesBySync client old same.line
line_as client old new same h is =
    subst (λ (d : SiteNow). LineGoesBySync client old d.line) is h
