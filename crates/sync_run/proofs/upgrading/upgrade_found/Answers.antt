use Rattle.std.proofs.lemmas.Result.{err_from_is_err_and}
use Rattle.target_upgrade.proofs.Made.{goes_nowhere}
use Rattle.sync_run.proofs.Ordered.{newer_comes, stopped_comes, upgraded_comes}
use Rattle.sync_run.proofs.upgrading.upgrade_found.Goals as goal

pub returns-then-found-gt-SUPPORTED-clause-goes : goal.returns-then-found-gt-SUPPORTED-clause-goes
returns-then-found-gt-SUPPORTED-clause-goes g c = goes_nowhere _ _ _ c.requires.stands

pub returns-then-found-gt-SUPPORTED-clause-order : goal.returns-then-found-gt-SUPPORTED-clause-order
returns-then-found-gt-SUPPORTED-clause-order g c is =
    newer_comes _ _ c.if-found-gt-SUPPORTED.true is

pub returns-in_err-upgrade-clause-order : goal.returns-in_err-upgrade-clause-order
returns-in_err-upgrade-clause-order g c is =
    let p = err_from_is_err_and c.from_residual.result c.from_residual.ensures.1 in
    rw (p.1, p.2)
    (stopped_comes _ _ _ _ _ c.if-found-gt-SUPPORTED.false is c.upgrade.ensures.goes)

pub returns-clause-order : goal.returns-clause-order
returns-clause-order g c is =
    upgraded_comes _ _ _ _ c.if-found-gt-SUPPORTED.false is c.upgrade.ensures.goes
