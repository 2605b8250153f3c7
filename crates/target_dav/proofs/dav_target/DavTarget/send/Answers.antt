use Rattle.std.proofs.Common.{◌++◌}
use Rattle.std.proofs.lemmas.Result.{err_from_is_err_and}
use Rattle.target_dav.specs.Exchanges.{client_at}
use Rattle.target_dav.proofs.Asked.{begun_failed, sent_cut}
use Rattle.target_dav.proofs.dav_target.DavTarget.send.Goals as goal

pub returns-in_err-begin-clause-sends : goal.returns-in_err-begin-clause-sends
returns-in_err-begin-clause-sends g c =
    let old = client_at (g.L.Link.state c.args.self.now.link) c.args.self.now.ready in
    let new = client_at (g.L.Link.state c.begin.new.self.link) c.begin.new.self.ready in
    let p = err_from_is_err_and c.from_residual.result c.from_residual.ensures.1 in
    let h = c.in_err-begin.ensures.begins in
    rw (p.1) (h.0.ready, begun_failed (c.args.first.now ++ c.args.rest.now) old new h.0 h.1)

pub returns-in_err-write_both-clause-sends : goal.returns-in_err-write_both-clause-sends
returns-in_err-write_both-clause-sends g c =
    let old = client_at (g.L.Link.state c.args.self.now.link) c.args.self.now.ready in
    let mid = client_at (g.L.Link.state c.self.inside.link) c.self.inside.ready in
    let new = client_at (g.L.Link.state c.write_both.new.link) c.self.inside.ready in
    let p = err_from_is_err_and c.from_residual-in_err-write_both.result
    c.from_residual-in_err-write_both.ensures.1 in
    let h = rw (← c.self.view_is) at c.in_ok-begin.ensures.begins in
    let cut = c.in_err-write_both.ensures in
    rw (p.1) (
      h.0.ready,
      sent_cut (c.args.first.now ++ c.args.rest.now) old mid new h.0 h.1 cut.written cut.alone,
    )
