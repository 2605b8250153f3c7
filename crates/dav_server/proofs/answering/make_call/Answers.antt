use Rattle.std.proofs.Common.{◌≤◌, refl, sym, subst, ℕ}
use Rattle.std.proofs.lemmas.Result.{err_from_is_err_and}
use Rattle.jop_base.specs.Times.{last_time}
use Rattle.dav_server.proofs.Told.{call_answered, call_fails, call_untold, later_early, shape_as}
use Rattle.dav_server.proofs.answering.make_call.Goals as goal

pub returns-in_err-call-clause-answers : goal.returns-in_err-call-clause-answers
returns-in_err-call-clause-answers g c =
    let p = err_from_is_err_and c.from_residual-in_err-call.result
    c.from_residual-in_err-call.ensures.1 in
    rw (p.1) (call_fails c.args.call c.args.blob.now (g.N.Line.state c.args.line.now)
    (g.N.Line.state c.call.new.self) c.call.new.blob c.call.result _ c.call.ensures.asks
    c.in_err-call.was)

pub write_response-requires-clause-reply : goal.write_response-requires-clause-reply
write_response-requires-clause-reply g c =
    let h = c.in_ok-call.ensures.asks in
    let told = c.last-reply.ensures c.args.call h.0
    ((g.N.Line.state c.args.line.now).trail, h.1.trail) in
    shape_as c.args.call c.in_ok-asked.asked h.0 c.last-reply.result.now c.in_ok-asked.ensures told
    h.1.shape

pub returns-in_err-text-clause-answers : goal.returns-in_err-text-clause-answers
returns-in_err-text-clause-answers g c =
    let h = c.in_ok-call.ensures.asks in
    let p = err_from_is_err_and c.from_residual-in_err-text.result
    c.from_residual-in_err-text.ensures.1 in
    rw (p.1) (call_untold c.args.call c.args.blob.now (g.N.Line.state c.args.line.now)
    (g.N.Line.state c.call.new.self) c.call.new.blob h.0 h.1)

pub returns-clause-answers : goal.returns-clause-answers
returns-clause-answers g c =
    let h = c.in_ok-call.ensures.asks in
    let told = c.last-reply.ensures c.args.call h.0
    ((g.N.Line.state c.args.line.now).trail, h.1.trail) in
    call_answered c.args.call c.in_ok-asked.asked c.args.blob.now (g.N.Line.state c.args.line.now)
    (g.N.Line.state c.call.new.self) c.args.date.now c.later_date.result c.in_ok-text.text
    c.call.new.blob h.0 c.last-reply.result.now c.in_ok-asked.ensures h.1 told c.in_ok-text.ensures
    c.later_date.ensures

pub returns-clause-date : goal.returns-clause-date
returns-clause-date g c =
    let h = c.in_ok-call.ensures.asks in
    let told = c.last-reply.ensures c.args.call h.0
    ((g.N.Line.state c.args.line.now).trail, h.1.trail) in
    let shape = shape_as c.args.call c.args.call h.0 c.last-reply.result.now refl told h.1.shape in
    subst (λ (n : ℕ). n ≤ last_time) (sym c.later_date.ensures)
    (later_early c.args.call c.last-reply.result.now c.args.date.now c.requires.date shape)
