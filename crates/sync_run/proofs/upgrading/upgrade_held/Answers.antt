use Rattle.sync_run.proofs.Held.{comes_found, goes_found}
use Rattle.sync_run.proofs.Ordered.{unreadable_comes}
use Rattle.sync_run.proofs.upgrading.upgrade_held.Goals as goal

pub returns-in-Ok-clause-comes : goal.returns-in-Ok-clause-comes
returns-in-Ok-clause-comes g c =
    comes_found _ _ _ _ _ _ _ c.upgrade_found.result c.in-Ok.ensures.ok
    c.read_version.ensures.goes c.upgrade_found.ensures.comes

pub returns-in-Ok-clause-goes : goal.returns-in-Ok-clause-goes
returns-in-Ok-clause-goes g c =
    goes_found _ _ _ _ _ _ c.in-Ok.ensures.ok c.read_version.ensures.goes
    c.upgrade_found.ensures.goes

pub returns-in-Ok-clause-order : goal.returns-in-Ok-clause-order
returns-in-Ok-clause-order g c unread =
    c.upgrade_found.ensures.order (c.in-Ok.ensures.order unread)

pub returns-in-Err-BadInfo-clause-order : goal.returns-in-Err-BadInfo-clause-order
returns-in-Err-BadInfo-clause-order g c unread =
    unreadable_comes _ (rw c.in-Err-BadInfo.field-0-is at (c.in-Err-BadInfo.ensures.order unread))
