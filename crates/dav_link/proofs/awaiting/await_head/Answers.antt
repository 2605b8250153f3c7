use Rattle.std.proofs.lemmas.Result.{err_from_is_err_and}
use Rattle.dav_link.proofs.Waiting.{read_fails}
use Rattle.dav_link.proofs.awaiting.await_head.Goals as goal

pub returns-in_err-read_on : goal.returns-in_err-read_on
returns-in_err-read_on g c =
    let p = err_from_is_err_and c.from_residual-in_err-read_on.result
    c.from_residual-in_err-read_on.ensures.1 in
    let held = c.loop-link.invariant in
    rw (p.1, p.2) (read_fails (g.M.Message.reads c.args.message.now) (g.L.Link.state c.args.link.now) (g.L.Link.state c.loop-link.link)
    (g.L.Link.state c.read_on.new.link) c.args.kept.now c.loop-link.kept c.read_on.new.kept held.0 1
    c.read_on.result _ held.1 c.read_on.ensures c.in_err-read_on.was)
