use Rattle.std.proofs.Common.{◌≡◌, subst, arith, ℕ, List, true, false}
use Rattle.std.proofs.lemmas.Result.{err_from_is_err_and}
use Rattle.dav_link.specs.Awaiting.{MissesNothing}
use Rattle.dav_link.proofs.Waiting.{awaits_true, awaits_false}
use Rattle.dav_wire.specs.RequestReading.{RequestReadsAs}
use Rattle.dav_server.specs.Hearing.{request_now}
use Rattle.dav_server.proofs.Heard.{heard_early, heard_whole, unread}
use Rattle.dav_server.proofs.next_request.hear.Goals as goal

pub returns-then-not-branch : goal.returns-then-not-branch
returns-then-not-branch g c =
    let old = g.L.Link.state c.args.link.now in
    let new = g.L.Link.state c.await_message.new.link in
    let came = c.in_ok-await_message.field-0 in
    let ended : came ≡ false = grind (arith, c.if-not-branch.true) in
    heard_early old new c.args.kept.now c.await_message.new.kept
    (awaits_false request_now (MissesNothing request_now) old new c.args.kept.now
    c.await_message.new.kept came c.in_ok-await_message.ensures ended)

pub returns-in_err-read : goal.returns-in_err-read
returns-in_err-read g c =
    let P = MissesNothing request_now in
    let old = g.L.Link.state c.args.link.now in
    let new = g.L.Link.state c.await_message.new.link in
    let came = c.in_ok-await_message.field-0 in
    let whole : came ≡ true = grind (arith, c.if-not-branch.false) in
    let p = err_from_is_err_and c.from_residual-in_err-read.result
    c.from_residual-in_err-read.ensures.1 in
    rw (p.1, p.2) (unread P old new c.args.kept.now c.await_message.new.kept
    (awaits_true request_now P old new c.args.kept.now c.await_message.new.kept came
    c.in_ok-await_message.ensures whole))

pub returns : goal.returns
returns g c =
    let P = MissesNothing request_now in
    let old = g.L.Link.state c.args.link.now in
    let new = g.L.Link.state c.await_message.new.link in
    let came = c.in_ok-await_message.field-0 in
    let whole : came ≡ true = grind (arith, c.if-not-branch.false) in
    heard_whole old new c.args.kept.now c.await_message.new.kept c.in_ok-read.read
    (awaits_true request_now P old new c.args.kept.now c.await_message.new.kept came
    c.in_ok-await_message.ensures whole)
    (subst (λ (l : List ℕ). RequestReadsAs l c.in_ok-read.read) c.as_slice.ensures
    c.in_ok-read.ensures)
