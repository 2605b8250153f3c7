use Rattle.std.proofs.Common.{◌∙◌, refl}
use Rattle.std.proofs.lemmas.Result.{err_from_is_err_and}
use Rattle.target_upgrade.proofs.Made.{client_same}
use Rattle.lease.proofs.NoFailures.{none_failed_on}
use Rattle.lease.proofs.Works.{none_failed}
use Rattle.sync_run.proofs.Starved.{none_failed_outcome, none_failed_starved}
use Rattle.sync_run.proofs.Held.{goes_acquired, goes_left, goes_under, released_none, runs_left, runs_stopped, runs_upgrade, stands_acquired, whose, work_of}
use Rattle.sync_run.proofs.Ordered.{read_under, still_unread, stops_in_order}
use Rattle.sync_run.proofs.upgrading.UpgradeTask.run.Goals as goal

pub returns-in_err-lease-clause-runs : goal.returns-in_err-lease-clause-runs
returns-in_err-lease-clause-runs g c =
    let p = err_from_is_err_and c.from_residual.result c.from_residual.ensures.1 in
    rw (p.1, p.2) (runs_upgrade _ _ _ _ (goes_acquired _ _ _ c.requires c.acquire.ensures.goes)
    (released_none _ (g.L.Line.state c.args.line.now) _ _ c.in_err-lease.ensures.gives)
    (none_failed_starved _ _ _ _ _ c.in_err-lease.ensures.calls refl))

pub upgrade_held-requires : goal.upgrade_held-requires
upgrade_held-requires g c =
    stands_acquired _ _ _ _ c.requires c.acquire.ensures.goes c.in_ok-lease.ensures.gives

pub returns-in_err-outcome-clause-runs : goal.returns-in_err-outcome-clause-runs
returns-in_err-outcome-clause-runs g c =
    let p = err_from_is_err_and c.from_residual-in_err-outcome.result
    c.from_residual-in_err-outcome.ensures.1 in
    let none = none_failed _ _ _ _ c.in_ok-lease.ensures.calls.1 in
    rw (p.1, p.2) (runs_stopped _ c.in_ok-lease.lease _ _ _ _ (whose _ _ _ c.in_ok-lease.ensures.gives)
    (goes_under _ _ _ _ _ c.requires c.acquire.ensures.goes c.in_ok-lease.ensures.gives
    c.upgrade_held.ensures.goes) none c.in_err-outcome.ensures.comes)

pub returns-clause-runs : goal.returns-clause-runs
returns-clause-runs g c =
    let lease = c.in_ok-lease.lease in
    let after = c.upgrade_held.new.lease in
    let same = c.in_ok-outcome.ensures.comes.same in
    let goes = goes_left _ lease after _ _ _ _ c.requires c.acquire.ensures.goes
    c.in_ok-lease.ensures.gives c.upgrade_held.ensures.goes same
    (work_of _ _ _ _ c.leave.ensures.runs) in
    let none = none_failed_on _ _ _ (none_failed _ _ _ _ c.in_ok-lease.ensures.calls.1)
    (none_failed_outcome lease after _ _ _ c.in_ok-outcome.ensures.comes
    c.upgrade_held.ensures.goes) in
    runs_left _ after _ _ _ _ (client_same lease after same ∙ whose _ _ _ c.in_ok-lease.ensures.gives)
    goes none c.leave.ensures.runs

pub returns-in_err-lease-clause-order : goal.returns-in_err-lease-clause-order
returns-in_err-lease-clause-order g c = still_unread _ _ _ _ c.acquire.ensures.goes

pub returns-in_err-outcome-clause-order : goal.returns-in_err-outcome-clause-order
returns-in_err-outcome-clause-order g c unread =
    let p = err_from_is_err_and c.from_residual-in_err-outcome.result
    c.from_residual-in_err-outcome.ensures.1 in
    rw (p.1, p.2) (stops_in_order _ _
    (c.in_err-outcome.ensures.order (read_under _ _ _ c.acquire.ensures.goes unread)))

pub returns-clause-order : goal.returns-clause-order
returns-clause-order g c unread =
    c.leave.ensures.order
    (c.in_ok-outcome.ensures.order (read_under _ _ _ c.acquire.ensures.goes unread))
