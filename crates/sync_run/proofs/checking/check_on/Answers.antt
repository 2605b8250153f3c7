use Rattle.sync_run.proofs.Leases.{Laws, keeps_check}
use Rattle.sync_run.proofs.checking.check_on.Goals as goal

pub returns-clause-keeps : goal.returns-clause-keeps
returns-clause-keeps g c =
    let laws : Laws = record {
      apart = c.held_apart.ensures.joined;
      exclusive = c.exclusive.ensures.joined;
      named = c.blocked.ensures.named;
    } in
    keeps_check _ _ _ _ laws c.make_session.ensures.session
