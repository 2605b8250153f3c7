use Rattle.sync_run.proofs.Held.{released_left, runs_upgrade}
use Rattle.sync_run.proofs.Starved.{none_failed_left}
use Rattle.target_upgrade.proofs.Made.{goes_lease}
use Rattle.sync_run.proofs.Ordered.{left_in_order}
use Rattle.sync_run.proofs.upgrading.leave.Goals as goal

pub returns-clause-runs : goal.returns-clause-runs
returns-clause-runs g c =
    rw c.answer.ensures
    (runs_upgrade _ _ _ _ (goes_lease _ _ _ c.requires.stands.lawful c.release-released.ensures.goes)
    (released_left c.args.lease (g.L.Line.state c.args.line.now) _ _ _ c.requires
    c.release-released.ensures.gives)
    (none_failed_left _ _ _ _ _ c.release-released.ensures.calls))

pub returns-clause-order : goal.returns-clause-order
returns-clause-order g c is =
    rw c.answer.ensures
    (left_in_order _ c.release-released.result c.args.outcome _ _ c.release-released.ensures.goes is)
