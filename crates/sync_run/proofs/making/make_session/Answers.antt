use Rattle.std.proofs.Common.{◌∙◌, refl, sym}
use Rattle.std.proofs.lemmas.Result.{err_from_is_err_and}
use Rattle.jop_target.proofs.Runs.{continues_on}
use Rattle.lease.proofs.Sessions.{has_room}
use Rattle.lease.proofs.WholeSessions.{continues_marked, continues_unmarked}
use Rattle.sync_run.specs.Sessions.{IsMarkOr}
use Rattle.sync_run.proofs.Held.{has_begun}
use Rattle.sync_run.proofs.Whole.{adds_ended, adds_nothing, adds_unended, as_marked}
use Rattle.sync_run.proofs.Ordered.{begins_unread, none_in_order, open_in_order, whole_in_order}
use Rattle.sync_run.proofs.making.make_session.Goals as goal

pub hold-outcome-requires : goal.hold-outcome-requires
hold-outcome-requires g c = has_begun _ _ _ c.in_ok-begin.ensures.ok

pub returns-in_err-begin-clause-session : goal.returns-in_err-begin-clause-session
returns-in_err-begin-clause-session g c =
    let p = err_from_is_err_and c.from_residual.result c.from_residual.ensures.1 in
    rw (p.1, p.2) (adds_nothing (g.W.Task.calls c.args.client.now) _ _ _ c.in_err-begin.ensures.err)

pub returns-in_err-begin-clause-line : goal.returns-in_err-begin-clause-line
returns-in_err-begin-clause-line g c =
    continues_unmarked (IsMarkOr (g.W.Task.calls c.args.client.now)) _ _ _
    c.in_err-begin.ensures.err

-- there was room for the end
pub returns-in_err-end-clause-session : goal.returns-in_err-end-clause-session
returns-in_err-end-clause-session g c =
    absurd (has_room _ _ c.hold-outcome.ensures.runs.goes.running c.in_err-end.ensures.ends)

pub returns-in_err-end-clause-line : goal.returns-in_err-end-clause-line
returns-in_err-end-clause-line g c =
    absurd (has_room _ _ c.hold-outcome.ensures.runs.goes.running c.in_err-end.ensures.ends)

pub returns-in_ok-end-clause-session : goal.returns-in_ok-end-clause-session
returns-in_ok-end-clause-session g c =
    adds_ended g.W.Task.calls g.W.Task.answers _ _ _ _ _ _ g.met.W.Task.inner
    c.in_ok-begin.ensures.ok
    (record { on = c.hold-outcome.ensures.runs; ends = c.hold-outcome.ensures.ends })
    (sym c.has_ended.ensures ∙ c.if-has_ended.true) c.in_ok-end.ensures.ok

pub returns-in_ok-end-clause-line : goal.returns-in_ok-end-clause-line
returns-in_ok-end-clause-line g c =
    let P = IsMarkOr (g.W.Task.calls c.args.client.now) in
    continues_on P _ _ _
    (continues_on P _ _ _ (continues_marked P _ _ _ _ refl tt c.in_ok-begin.ensures.ok)
    (as_marked (g.W.Task.calls c.args.client.now) _ _ c.hold-outcome.ensures.runs.goes.line))
    (continues_marked P _ _ _ _ refl tt c.in_ok-end.ensures.ok)

pub returns-else-has_ended-clause-session : goal.returns-else-has_ended-clause-session
returns-else-has_ended-clause-session g c =
    adds_unended g.W.Task.calls g.W.Task.answers _ _ _ _ _ _ g.met.W.Task.inner
    c.in_ok-begin.ensures.ok
    (record { on = c.hold-outcome.ensures.runs; ends = c.hold-outcome.ensures.ends })
    (sym c.has_ended.ensures ∙ c.if-has_ended.false) refl

pub returns-else-has_ended-clause-line : goal.returns-else-has_ended-clause-line
returns-else-has_ended-clause-line g c =
    let P = IsMarkOr (g.W.Task.calls c.args.client.now) in
    continues_on P _ _ _ (continues_marked P _ _ _ _ refl tt c.in_ok-begin.ensures.ok)
    (as_marked (g.W.Task.calls c.args.client.now) _ _ c.hold-outcome.ensures.runs.goes.line)

pub returns-in_err-begin-clause-order : goal.returns-in_err-begin-clause-order
returns-in_err-begin-clause-order g c = none_in_order _ _ _ c.in_err-begin.ensures.err

-- there was room for the end
pub returns-in_err-end-clause-order : goal.returns-in_err-end-clause-order
returns-in_err-end-clause-order g c =
    absurd (has_room _ _ c.hold-outcome.ensures.runs.goes.running c.in_err-end.ensures.ends)

pub returns-in_ok-end-clause-order : goal.returns-in_ok-end-clause-order
returns-in_ok-end-clause-order g c =
    let begun = c.in_ok-begin.ensures.ok in
    let line = c.hold-outcome.ensures.runs.goes.line in
    whole_in_order _ _ _ line.more _ _ begun line.trail c.in_ok-end.ensures.ok
    (c.hold-outcome.ensures.order (begins_unread _ _ begun))

pub returns-else-has_ended-clause-order : goal.returns-else-has_ended-clause-order
returns-else-has_ended-clause-order g c =
    let begun = c.in_ok-begin.ensures.ok in
    let line = c.hold-outcome.ensures.runs.goes.line in
    open_in_order _ _ _ line.more _ begun line.trail
    (c.hold-outcome.ensures.order (begins_unread _ _ begun))
