use Rattle.std.proofs.Common.{refl}
use Rattle.lease.specs.Added.{renew_calls}
use Rattle.lease.proofs.Added.{adds_none}
use Rattle.lease.proofs.Sessions.{lease_nowhere}
use Rattle.lease.proofs.work.renew_if_due.Goals as goal

pub returns-else-due-clause-calls : goal.returns-else-due-clause-calls
returns-else-due-clause-calls g c =
    let calls = renew_calls c.args.lease.now.kind c.args.lease.now.client in
    (calls, adds_none calls _ _ refl)

pub returns-else-due-clause-goes : goal.returns-else-due-clause-goes
returns-else-due-clause-goes g c = lease_nowhere _ _ _ c.requires.stands
