use Rattle.std.proofs.lemmas.Result.{err_from_is_err_and}
use Rattle.lease.specs.Added.{put_calls, leave_calls}
use Rattle.lease.proofs.Outcomes.{makes_none, makes_on, renews_on}
use Rattle.lease.proofs.Renewals.{held_again, may_put_again}
use Rattle.lease.proofs.Sessions.{lease_on}
use Rattle.lease.proofs.renewal.renew.Goals as goal

pub put_and_look-requires : goal.put_and_look-requires
put_and_look-requires g c = may_put_again c.args.lease.now _ c.requires

pub returns-in_err-sight-clause-calls : goal.returns-in_err-sight-clause-calls
returns-in_err-sight-clause-calls g c =
    let p = err_from_is_err_and c.from_residual.result c.from_residual.ensures.1 in
    let lease = c.args.lease.now in
    rw (p.1, p.2) (makes_none (Unit {0}) _ (put_calls lease.kind lease.client)
    (leave_calls lease.kind lease.client)
    (g.L.Line.state c.args.line.now) (g.L.Line.state c.put_and_look.new.line)
    _ c.in_err-sight.ensures.err)

pub returns-clause-gives : goal.returns-clause-gives
returns-clause-gives g c =
    renews_on c.args.lease.now c.settle_again.new.lease (g.L.Line.state c.args.line.now)
    (g.L.Line.state c.put_and_look.new.line) (g.L.Line.state c.settle_again.new.line)
    c.settle_again.result
    c.put_and_look.ensures.goes.line.later c.settle_again.ensures.unheld
    c.settle_again.ensures.gives

pub returns-clause-held : goal.returns-clause-held
returns-clause-held g c =
    held_again c.args.lease.now c.settle_again.new.lease (g.L.Line.state c.args.line.now)
    (g.L.Line.state c.settle_again.new.line)
    c.settle_again.result c.requires c.settle_again.ensures.err
    (renews_on c.args.lease.now c.settle_again.new.lease (g.L.Line.state c.args.line.now)
    (g.L.Line.state c.put_and_look.new.line) (g.L.Line.state c.settle_again.new.line)
    c.settle_again.result
    c.put_and_look.ensures.goes.line.later c.settle_again.ensures.unheld
    c.settle_again.ensures.gives)

pub returns-clause-calls : goal.returns-clause-calls
returns-clause-calls g c =
    let lease = c.args.lease.now in
    makes_on (put_calls lease.kind lease.client) (leave_calls lease.kind lease.client) _ _ _ _
    c.in_ok-sight.ensures.calls c.settle_again.ensures.calls

pub returns-clause-goes : goal.returns-clause-goes
returns-clause-goes g c = lease_on _ _ _ _ c.put_and_look.ensures.goes c.settle_again.ensures.goes
