use Rattle.std.proofs.lemmas.Result.{err_from_is_err_and}
use Rattle.std.proofs.Common.{Ok, Err}
use Rattle.lease.proofs.Works.{none_failed}
use Rattle.sync_run.proofs.Held.{checks_left, checks_none}
use Rattle.sync_run.proofs.Ordered.{still_unread, twice_unread}
use Rattle.sync_run.proofs.checking.CheckTask.run.Goals as goal

pub returns-in_err-lease-clause-runs : goal.returns-in_err-lease-clause-runs
returns-in_err-lease-clause-runs g c =
    let p = err_from_is_err_and c.from_residual.result c.from_residual.ensures.1 in
    rw (p.1, p.2) (checks_none _ _ _ _ _ c.requires c.acquire.ensures.goes
    c.in_err-lease.ensures.gives c.in_err-lease.ensures.calls)

pub returns-in_err-release-clause-runs : goal.returns-in_err-release-clause-runs
returns-in_err-release-clause-runs g c =
    let p = err_from_is_err_and c.from_residual-in_err-release.result
    c.from_residual-in_err-release.ensures.1 in
    rw (p.1, p.2) (checks_left _ _ _ _ _ _ (Err _) c.requires c.acquire.ensures.goes
    c.in_ok-lease.ensures.gives (none_failed _ _ _ _ c.in_ok-lease.ensures.calls.1)
    c.release.ensures.goes c.in_err-release.ensures.gives c.in_err-release.ensures.calls)

pub returns-clause-runs : goal.returns-clause-runs
returns-clause-runs g c =
    checks_left _ _ _ _ _ _ (Ok _) c.requires c.acquire.ensures.goes c.in_ok-lease.ensures.gives
    (none_failed _ _ _ _ c.in_ok-lease.ensures.calls.1) c.release.ensures.goes
    c.in_ok-release.ensures.gives c.in_ok-release.ensures.calls

pub returns-in_err-lease-clause-order : goal.returns-in_err-lease-clause-order
returns-in_err-lease-clause-order g c = still_unread _ _ _ _ c.acquire.ensures.goes

pub returns-in_err-release-clause-order : goal.returns-in_err-release-clause-order
returns-in_err-release-clause-order g c =
    twice_unread _ _ _ _ _ _ c.acquire.ensures.goes c.release.ensures.goes

pub returns-clause-order : goal.returns-clause-order
returns-clause-order g c =
    twice_unread _ _ _ _ _ (Ok (tt {0})) c.acquire.ensures.goes c.release.ensures.goes
