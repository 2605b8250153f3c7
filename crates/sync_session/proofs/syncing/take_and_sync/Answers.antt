use Rattle.std.proofs.Common.{subst}
use Rattle.std.proofs.lemmas.Result.{err_from_is_err_and}
use Rattle.jop_target.specs.Trail.{LineNow}
use Rattle.lease.specs.Phase.{Free}
use Rattle.lease.specs.Standing.{StandsIn}
use Rattle.sync_session.proofs.Done.{counted_locked}
use Rattle.sync_session.proofs.Left.{has_taken}
use Rattle.sync_session.proofs.Ordered.{idle_in_order}
use Rattle.sync_session.proofs.Ran.{HasTried, runs_done, runs_none, runs_refused, starts_taken}
use Rattle.sync_session.proofs.Wanted.{held_by_key, idle_by_key}
use Rattle.sync_session.proofs.syncing.take_and_sync.Goals as goal

pub acquire-requires : goal.acquire-requires
acquire-requires g c =
    subst (λ (l : LineNow). StandsIn c.args.client.now l.trail Free)
    (g.met.S.Client.same_line c.args.site.now) c.requires.begun.begun.stands

pub returns-in_err-lease-clause-runs : goal.returns-in_err-lease-clause-runs
returns-in_err-lease-clause-runs g c =
    let p = err_from_is_err_and c.from_residual.result c.from_residual.ensures.1 in
    let e = c.in_err-lease.ensures in
    let tried : HasTried c.args.client.now _ _ _ =
    record { gives = e.gives; calls = e.calls; goes = e.goes } in
    rw (p.1, p.2)
    (runs_none _ _ _ _ _ _ (g.met.S.Client.same_line _) (g.met.S.Client.same_line _)
    c.requires.begun (g.met.S.Client.keeps_site _ _ c.acquire.ensures.keeps) tried)

pub sync_held-requires : goal.sync_held-requires
sync_held-requires g c = record {
  starts =
      let e = c.in_ok-lease.ensures in
      let old = g.S.Client.site c.args.site.now in
      let held = g.S.Client.site c.acquire.new.line in
      starts_taken c.args.client.now c.in_ok-lease.lease old held c.requires.begun
      (has_taken c.args.client.now c.in_ok-lease.lease old held _ _ (g.met.S.Client.same_line _)
      (g.met.S.Client.same_line _) e.gives (g.met.S.Client.keeps_site _ _ e.keeps) e.goes);
}

pub returns-in_err-sync_held-clause-runs : goal.returns-in_err-sync_held-clause-runs
returns-in_err-sync_held-clause-runs g c =
    let p = err_from_is_err_and c.from_residual-in_err-sync_held.result
    c.from_residual-in_err-sync_held.ensures.1 in
    let e = c.in_ok-lease.ensures in
    let old = g.S.Client.site c.args.site.now in
    let held = g.S.Client.site c.acquire.new.line in
    rw (p.1, p.2)
    (runs_refused c.args.client.now c.in_ok-lease.lease old held _ _ _ _ c.new-report.ensures
    c.requires.begun
    (has_taken c.args.client.now c.in_ok-lease.lease old held _ _ (g.met.S.Client.same_line _)
    (g.met.S.Client.same_line _) e.gives (g.met.S.Client.keeps_site _ _ e.keeps) e.goes)
    c.in_err-sync_held.ensures.ends)

pub returns-clause-runs : goal.returns-clause-runs
returns-clause-runs g c =
    let e = c.in_ok-lease.ensures in
    let old = g.S.Client.site c.args.site.now in
    let held = g.S.Client.site c.acquire.new.line in
    runs_done c.args.client.now c.in_ok-lease.lease old held _ _ c.sync_held.new.report _
    c.new-report.ensures c.requires.begun
    (has_taken c.args.client.now c.in_ok-lease.lease old held _ _ (g.met.S.Client.same_line _)
    (g.met.S.Client.same_line _) e.gives (g.met.S.Client.keeps_site _ _ e.keeps) e.goes)
    c.in_ok-sync_held.ensures.ends
    (counted_locked c.sync_held.new.report c.sealed_rows.result _ _ c.sealed_rows.ensures
    c.tables.ensures)

pub returns-in_err-lease-clause-order : goal.returns-in_err-lease-clause-order
returns-in_err-lease-clause-order g c =
    idle_in_order _ c.args.client.now (g.S.Client.site c.args.site.now)
    (g.S.Client.site c.acquire.new.line) _ _ (g.met.S.Client.same_line _)
    (g.met.S.Client.same_line _) c.requires.begun.calls c.in_err-lease.ensures.goes

pub returns-in_err-sync_held-clause-order : goal.returns-in_err-sync_held-clause-order
returns-in_err-sync_held-clause-order g c =
    let p = err_from_is_err_and c.from_residual-in_err-sync_held.result
    c.from_residual-in_err-sync_held.ensures.1 in
    rw (p.1, p.2) c.in_err-sync_held.ensures.order

pub returns-clause-order : goal.returns-clause-order
returns-clause-order g c = c.in_ok-sync_held.ensures.order

pub returns-in_err-lease-clause-key : goal.returns-in_err-lease-clause-key
returns-in_err-lease-clause-key g c =
    idle_by_key _ _ (g.S.Client.site c.args.site.now).tables c.args.client.now
    (g.S.Client.site c.args.site.now) (g.S.Client.site c.acquire.new.line) _ _
    (g.met.S.Client.same_line _) (g.met.S.Client.same_line _) c.requires.begun.calls
    c.in_err-lease.ensures.goes

pub returns-in_err-sync_held-clause-key : goal.returns-in_err-sync_held-clause-key
returns-in_err-sync_held-clause-key g c =
    let p = err_from_is_err_and c.from_residual-in_err-sync_held.result
    c.from_residual-in_err-sync_held.ensures.1 in
    rw (p.1, p.2)
    (held_by_key _ _ (g.S.Client.site c.args.site.now) (g.S.Client.site c.acquire.new.line) _
    (g.met.S.Client.keeps_site _ _ c.in_ok-lease.ensures.keeps) c.in_err-sync_held.ensures.key)

pub returns-clause-key : goal.returns-clause-key
returns-clause-key g c =
    held_by_key _ _ (g.S.Client.site c.args.site.now) (g.S.Client.site c.acquire.new.line) _
    (g.met.S.Client.keeps_site _ _ c.in_ok-lease.ensures.keeps) c.in_ok-sync_held.ensures.key
