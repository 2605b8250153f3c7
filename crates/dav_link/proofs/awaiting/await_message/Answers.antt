use Rattle.std.proofs.Common.{◌≡◌, arith, true, Ok}
use Rattle.std.proofs.lemmas.Result.{err_from_is_err_and}
use Rattle.dav_link.specs.Awaiting.{HasHead, MissesNothing}
use Rattle.dav_link.proofs.Waiting.{awaits_true, awaits_later, awaits_fails}
use Rattle.dav_link.proofs.awaiting.await_message.Goals as goal

pub returns-in_err-came : goal.returns-in_err-came
returns-in_err-came g c =
    let m = g.M.Message.reads c.args.message.now in
    let old = g.L.Link.state c.args.link.now in
    let mid = g.L.Link.state c.await_head.new.link in
    let new = g.L.Link.state c.await_body.new.link in
    let headed : c.in_ok-await_head.field-0 ≡ true = grind (arith, c.if-not-branch.false) in
    let head = awaits_true m (HasHead m) old mid c.args.kept.now c.await_head.new.kept
    c.in_ok-await_head.field-0 c.in_ok-await_head.ensures headed in
    let p = err_from_is_err_and c.from_residual-in_err-came.result
    c.from_residual-in_err-came.ensures.1 in
    rw (p.1, p.2) (awaits_fails m (MissesNothing m) old mid new c.args.kept.now c.await_head.new.kept
    c.await_body.new.kept head.bytes c.await_body.result _ head.kept c.await_body.ensures
    c.in_err-came.was)

pub returns : goal.returns
returns g c =
    let m = g.M.Message.reads c.args.message.now in
    let old = g.L.Link.state c.args.link.now in
    let mid = g.L.Link.state c.await_head.new.link in
    let new = g.L.Link.state c.await_body.new.link in
    let headed : c.in_ok-await_head.field-0 ≡ true = grind (arith, c.if-not-branch.false) in
    let head = awaits_true m (HasHead m) old mid c.args.kept.now c.await_head.new.kept
    c.in_ok-await_head.field-0 c.in_ok-await_head.ensures headed in
    awaits_later m (MissesNothing m) old mid new c.args.kept.now c.await_head.new.kept
    c.await_body.new.kept head.bytes (Ok c.in_ok-came.came) head.kept c.in_ok-came.ensures
