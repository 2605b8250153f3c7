use Rattle.std.proofs.Common.{◌∙◌, ◌++◌, List, ℕ, ap, refl}
use Rattle.std.proofs.lemmas.Result.{err_from_is_err_and}
use Rattle.dav_wire.specs.Requests.{request_text}
use Rattle.target_dav.specs.Exchanges.{client_at}
use Rattle.target_dav.proofs.Asked.{ask_fails, same_host}
use Rattle.target_dav.proofs.dav_target.DavTarget.ask.Goals as goal

pub returns-in_err-received-clause-asks : goal.returns-in_err-received-clause-asks
returns-in_err-received-clause-asks g c =
    let old = client_at (g.L.Link.state c.args.self.now.link) c.args.self.now.ready in
    let mid = client_at (g.L.Link.state c.self-2.inside.link) c.self-2.inside.ready in
    let new = client_at (g.L.Link.state c.receive.new.link) c.self-2.inside.ready in
    let p = err_from_is_err_and c.from_residual-in_err-received.result
    c.from_residual-in_err-received.ensures.1 in
    let sends = rw (← c.self-2.view_is) at c.in_ok-send.ensures.sends in
    rw (p.1, p.2) (ask_fails c.args.self.now.host c.args.call.now c.args.blob.now
    (c.as_slice.result.now ++ c.in_ok-first.rest.now) old mid new c.receive.result _ sends
    (ap (λ (t : List ℕ). t ++ c.in_ok-first.rest.now) c.as_slice.ensures
    ∙ c.in_ok-first.ensures.whole
    ∙ ap (λ host. request_text host c.args.call.now c.args.blob.now)
    (same_host _ _ c.self.view_is)) c.receive.ensures c.in_err-received.was refl)
