use Rattle.std.proofs.Common.{sym, ◌≡◌, inr, ◌∙◌}
use Rattle.std.proofs.lemmas.Result.{err_from_is_err_and}
use Rattle.jop_target.specs.declared.reply.Reply.TheVariants.{Failed}
use Rattle.lease.specs.declared.lease.Lease.{Lease}
use Rattle.lease.specs.Added.{renew_calls}
use Rattle.lease.proofs.Works.{answered_as, fresh_same, held_same, is_ready, none_failed_unheard, work_failed, work_held, works_none}
use Rattle.lease.proofs.work.call_held.Goals as goal

pub returns-in_err-renew_if_due-clause-gives : goal.returns-in_err-renew_if_due-clause-gives
returns-in_err-renew_if_due-clause-gives g c =
    let p = err_from_is_err_and c.from_residual.result c.from_residual.ensures.1 in
    let before = c.args.lease.now in
    let gives = c.in_err-renew_if_due.ensures.gives in
    rw (p.1, p.2) (works_none before c.renew_if_due.new.lease c.args.call
    c.args.blob.now c.args.blob.now (g.L.Line.state c.args.line.now)
    (g.L.Line.state c.renew_if_due.new.line) _
    (record {
      due = gives.0;
      goes = c.renew_if_due.ensures.goes;
      calls = c.in_err-renew_if_due.ensures.calls;
    })
    gives.1)

pub returns-in_err-call-clause-gives : goal.returns-in_err-call-clause-gives
returns-in_err-call-clause-gives g c =
    let p = err_from_is_err_and c.from_residual-in_err-call.result
    c.from_residual-in_err-call.ensures.1 in
    let before = c.args.lease.now in
    let old = g.L.Line.state c.args.line.now in
    let mid = g.L.Line.state c.renew_if_due.new.line in
    let made = c.in_ok-renew_if_due.ensures.calls in
    rw (p.1, p.2) (
      none_failed_unheard (renew_calls before.kind before.client) made.0 old mid
          (g.L.Line.state c.call.new.self)
          c.args.call c.args.blob.now c.call.new.blob _ made.1 c.in_err-call.ensures.asks,
      inr (record {
        mid = mid;
        ready =
            is_ready before c.renew_if_due.new.lease old mid c.renew_if_due.ensures.goes made
            c.in_ok-renew_if_due.ensures.gives;
        error = _;
        unheard = c.in_err-call.ensures.asks;
      }),
    )

pub returns-in-Failed-clause-gives : goal.returns-in-Failed-clause-gives
returns-in-Failed-clause-gives g c =
    let before = c.args.lease.now in
    let after = c.renew_if_due.new.lease in
    let old = g.L.Line.state c.args.line.now in
    let mid = g.L.Line.state c.renew_if_due.new.line in
    let new = g.L.Line.state c.call.new.self in
    let asks = c.in_ok-call.ensures.asks in
    let failed = sym (c.last.ensures _ _ (_, asks.1.trail)) ∙ c.in-Failed.is in
    let answered = answered_as mid new c.args.call c.args.blob.now c.call.new.blob asks.0 Failed
    asks.1 failed in
    let ready = is_ready before after old mid c.renew_if_due.ensures.goes
    c.in_ok-renew_if_due.ensures.calls c.in_ok-renew_if_due.ensures.gives in
    let now : Lease = record before { stamp = after.stamp } in (
      work_failed now old mid new c.args.call c.args.blob.now c.call.new.blob
          c.renew_if_due.ensures.goes.line.later
          (fresh_same before after mid.trail c.renew_if_due.ensures.same ready.fresh)
          c.requires.work answered,
      inr (record { mid = mid; ready = ready; answered = answered }),
    )

pub returns-in_default : goal.returns-in_default
returns-in_default g c =
    let before = c.args.lease.now in
    let after = c.renew_if_due.new.lease in
    let old = g.L.Line.state c.args.line.now in
    let mid = g.L.Line.state c.renew_if_due.new.line in
    let new = g.L.Line.state c.call.new.self in
    let asks = c.in_ok-call.ensures.asks in
    let heard : ¬ (asks.0 ≡ Failed) = λ e. c.in_default.not-Failed
    (c.last.ensures _ _ (_, asks.1.trail) ∙ e) in
    let ready = is_ready before after old mid c.renew_if_due.ensures.goes
    c.in_ok-renew_if_due.ensures.calls c.in_ok-renew_if_due.ensures.gives in
    let now : Lease = record before { stamp = after.stamp } in
    let fresh = fresh_same before after mid.trail c.renew_if_due.ensures.same ready.fresh in
    record {
      gives = record {
        reply = asks.0;
        called = record { mid = mid; ready = ready; answered = asks.1 };
        heard = heard;
        held = held_same before after new.trail c.renew_if_due.ensures.same
            (work_held now mid new c.args.call c.args.blob.now c.call.new.blob asks.0 fresh
            c.requires.work asks.1 heard);
      };
      same = c.renew_if_due.ensures.same;
      keeps = g.met.L.Line.keeps_on _ _ _ c.renew_if_due.ensures.keeps c.in_ok-call.ensures.keeps;
    }
