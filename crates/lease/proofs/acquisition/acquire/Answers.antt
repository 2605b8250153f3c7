use Rattle.std.proofs.Common.{[], ◌++◌, false, Err, arith, refl}
use Rattle.std.proofs.lemmas.Result.{err_from_is_err_and}
use Rattle.lease.specs.declared.lease.Lease.{Lease}
use Rattle.lease.specs.Added.{look_calls, put_calls, leave_calls}
use Rattle.lease.proofs.Added.{adds_more}
use Rattle.lease.proofs.Outcomes.{acquires_none, acquires_on, makes_none, makes_on}
use Rattle.lease.proofs.Renewals.{may_put_first}
use Rattle.lease.specs.Phase.{Free}
use Rattle.lease.proofs.Sessions.{lease_on}
use Rattle.lease.proofs.acquisition.acquire.Goals as goal

pub returns-in_err-first-clause-calls : goal.returns-in_err-first-clause-calls
returns-in_err-first-clause-calls g c =
    let p = err_from_is_err_and c.from_residual.result c.from_residual.ensures.1 in
    let others = put_calls c.args.kind c.args.client.now ++
    leave_calls c.args.kind c.args.client.now in
    rw (p.1, p.2) (makes_none Lease _ look_calls others (g.L.Line.state c.args.line.now)
    (g.L.Line.state c.look.new.line) _
    c.in_err-first.ensures.err)

pub returns-in-Some-clause-calls : goal.returns-in-Some-clause-calls
returns-in-Some-clause-calls g c =
    let others = put_calls c.args.kind c.args.client.now ++
    leave_calls c.args.kind c.args.client.now in
    (others, false, adds_more look_calls [] others false _ _ c.in_ok-first.ensures.calls)

pub returns-in_err-sight-clause-calls : goal.returns-in_err-sight-clause-calls
returns-in_err-sight-clause-calls g c =
    let p = err_from_is_err_and c.from_residual-in_err-sight.result
    c.from_residual-in_err-sight.ensures.1 in
    let puts = put_calls c.args.kind c.args.client.now in
    let leave = leave_calls c.args.kind c.args.client.now in
    rw (p.1, p.2) (makes_on {T =
    Lease} look_calls (puts ++ leave) _ _ (g.L.Line.state c.put_and_look.new.line).trail
    (Err _) c.in_ok-first.ensures.calls
    (makes_none Lease _ puts leave (g.L.Line.state c.look.new.line)
    (g.L.Line.state c.put_and_look.new.line) _
    c.in_err-sight.ensures.err))

pub returns-in_err-sight-clause-goes : goal.returns-in_err-sight-clause-goes
returns-in_err-sight-clause-goes g c =
    lease_on _ _ _ _ c.look.ensures.goes c.put_and_look.ensures.goes

pub returns-clause-calls : goal.returns-clause-calls
returns-clause-calls g c =
    let puts = put_calls c.args.kind c.args.client.now in
    let leave = leave_calls c.args.kind c.args.client.now in
    makes_on look_calls (puts ++ leave) _ _ _ _ c.in_ok-first.ensures.calls
    (makes_on puts leave _ _ _ _ c.in_ok-sight.ensures.calls c.settle.ensures.calls)

pub returns-clause-goes : goal.returns-clause-goes
returns-clause-goes g c =
    lease_on _ _ _ _ (lease_on _ _ _ _ c.look.ensures.goes c.put_and_look.ensures.goes)
    c.settle.ensures.goes

pub returns-clause-keeps : goal.returns-clause-keeps
returns-clause-keeps g c =
    let on = g.met.L.Line.keeps_on in
    on _ _ _ (on _ _ _ c.look.ensures.keeps c.put_and_look.ensures.keeps) c.settle.ensures.keeps

pub put_and_look-requires : goal.put_and_look-requires
put_and_look-requires g c = may_put_first _ _ _ _ c.in_ok-first.ensures.ok c.in_default.is

pub returns-in_err-first-clause-gives : goal.returns-in_err-first-clause-gives
returns-in_err-first-clause-gives g c =
    let p = err_from_is_err_and c.from_residual.result c.from_residual.ensures.1 in
    let old = g.L.Line.state c.args.line.now in
    rw (p.1, p.2) (acquires_none c.args.kind _ look_calls old old (g.L.Line.state c.look.new.line) Free
    _ (omega arith) c.requires refl c.in_err-first.ensures.err)

pub returns-clause-gives : goal.returns-clause-gives
returns-clause-gives g c =
    acquires_on c.args.kind _ (g.L.Line.state c.args.line.now) (g.L.Line.state c.put_and_look.new.line)
    (g.L.Line.state c.settle.new.line) c.settle.result
    (let a = c.look.ensures.goes.line.later in
    let b = c.put_and_look.ensures.goes.line.later in omega arith) c.settle.ensures.gives
