use Rattle.std.proofs.lemmas.Result.{err_from_is_err_and}
use Rattle.lease.specs.Phase.{Held}
use Rattle.lease.proofs.Calls.{asks_delete, same_kind-itself}
use Rattle.lease.proofs.Outcomes.{release_heard, release_makes, release_refused}
use Rattle.lease.proofs.leaving.release.Goals as goal

pub ask-requires : goal.ask-requires
ask-requires g c =
    let lease = c.args.lease in
    asks_delete _ _ (Held lease.kind lease.stamp) _ _ c.requires (same_kind-itself lease.kind)
    c.own_path-path.ensures

pub returns-in_err-ask-clause-gives : goal.returns-in_err-ask-clause-gives
returns-in_err-ask-clause-gives g c =
    let p = err_from_is_err_and c.from_residual.result c.from_residual.ensures.1 in
    rw (p.1, p.2) (release_refused c.args.lease (g.L.Line.state c.args.line.now)
    (g.L.Line.state c.ask.new.line)
    _ _ c.requires c.own_path-path.ensures c.in_err-ask.ensures.err)

pub returns-in_err-ask-clause-calls : goal.returns-in_err-ask-clause-calls
returns-in_err-ask-clause-calls g c =
    let p = err_from_is_err_and c.from_residual.result c.from_residual.ensures.1 in
    rw (p.1, p.2) (release_makes c.args.lease (g.L.Line.state c.args.line.now)
    (g.L.Line.state c.ask.new.line)
    _ _ c.requires c.own_path-path.ensures c.in_err-ask.ensures.err)

pub returns-clause-calls : goal.returns-clause-calls
returns-clause-calls g c =
    release_heard _ _ (g.L.Line.state c.args.line.now) (g.L.Line.state c.ask.new.line)
    _ _ c.own_path-path.ensures c.in_ok-ask.ensures.ok
