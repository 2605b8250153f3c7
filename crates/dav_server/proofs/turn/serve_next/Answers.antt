use Rattle.std.proofs.Common.{refl, inr, drop, true}
use Rattle.std.proofs.lemmas.Result.{err_from_is_err_and}
use Rattle.dav_wire.specs.declared.request_reader.ReadRequest.TheVariants.{Whole, Bad}
use Rattle.dav_server.proofs.Turns.{answered, bad_serves, cut, heard_as, starved_after, whole_serves}
use Rattle.dav_server.proofs.turn.serve_next.Goals as goal

pub returns-in_err-write_message-in-Bad-clause-turns :
    goal.returns-in_err-write_message-in-Bad-clause-turns
returns-in_err-write_message-in-Bad-clause-turns g c =
    let old = g.L.Link.state c.args.link.now in
    let mid = g.L.Link.state c.hear.new.link in
    let new = g.L.Link.state c.write_message.new.link in
    let line = g.N.Line.state c.args.line.now in
    let date = c.args.date.now in
    let kept = c.hear.new.kept in
    let status = c.in-Bad.status in
    let heard = heard_as old mid c.args.kept.now kept c.in_ok-hear.field-0 (Bad status)
    c.in_ok-hear.ensures c.in-Bad.is in
    let sent = c.as_slice.result.now in
    let serves = bad_serves kept line date status c.in_ok-text-in-Bad.text sent heard.reads
    c.in_ok-text-in-Bad.ensures c.as_slice.ensures in
    let failed = c.in_err-write_message-in-Bad.ensures in
    let p = err_from_is_err_and c.from_residual-in_err-write_message-in-Bad.result
    c.from_residual-in_err-write_message-in-Bad.ensures.1 in
    rw (p.1, p.2) (inr (cut old mid new c.args.kept.now kept heard.bytes line date (Bad status) sent
    kept line date heard.kept serves failed.written failed.alone))

pub returns-in_ok-write_message-in-Bad-clause-turns :
    goal.returns-in_ok-write_message-in-Bad-clause-turns
returns-in_ok-write_message-in-Bad-clause-turns g c =
    let old = g.L.Link.state c.args.link.now in
    let mid = g.L.Link.state c.hear.new.link in
    let new = g.L.Link.state c.write_message.new.link in
    let line = g.N.Line.state c.args.line.now in
    let date = c.args.date.now in
    let kept = c.hear.new.kept in
    let status = c.in-Bad.status in
    let heard = heard_as old mid c.args.kept.now kept c.in_ok-hear.field-0 (Bad status)
    c.in_ok-hear.ensures c.in-Bad.is in
    let sent = c.as_slice.result.now in
    let serves = bad_serves kept line date status c.in_ok-text-in-Bad.text sent heard.reads
    c.in_ok-text-in-Bad.ensures c.as_slice.ensures in
    let whole = c.in_ok-write_message-in-Bad.ensures in
    answered old mid new c.args.kept.now kept heard.bytes line date (Bad status) sent kept line date
    true heard.kept serves whole.written whole.alone refl

pub returns-in_err-text-in-Whole-clause-turns : goal.returns-in_err-text-in-Whole-clause-turns
returns-in_err-text-in-Whole-clause-turns g c =
    let old = g.L.Link.state c.args.link.now in
    let mid = g.L.Link.state c.hear.new.link in
    let kept = c.hear.new.kept in
    let request = c.in-Whole.request in
    let used = c.in-Whole.used in
    let heard = heard_as old mid c.args.kept.now kept c.in_ok-hear.field-0 (Whole request used)
    c.in_ok-hear.ensures c.in-Whole.is in
    let p = err_from_is_err_and c.from_residual-in_err-text-in-Whole.result
    c.from_residual-in_err-text-in-Whole.ensures.1 in
    rw (p.1, p.2) (starved_after old mid c.args.kept.now kept heard.bytes
    (g.N.Line.state c.args.line.now) (g.N.Line.state c.answer.new.line) request used heard.kept
    heard.reads c.in_err-text-in-Whole.ensures.answers)

pub returns-in_err-write_message-in-Whole-clause-turns :
    goal.returns-in_err-write_message-in-Whole-clause-turns
returns-in_err-write_message-in-Whole-clause-turns g c =
    let old = g.L.Link.state c.args.link.now in
    let mid = g.L.Link.state c.hear.new.link in
    let new = g.L.Link.state c.write_message-in-Whole.new.link in
    let line = g.N.Line.state c.args.line.now in
    let end = g.N.Line.state c.answer.new.line in
    let date = c.args.date.now in
    let last = c.answer.new.date in
    let kept = c.hear.new.kept in
    let request = c.in-Whole.request in
    let used = c.in-Whole.used in
    let heard = heard_as old mid c.args.kept.now kept c.in_ok-hear.field-0 (Whole request used)
    c.in_ok-hear.ensures c.in-Whole.is in
    let sent = c.as_slice-in-Whole.result.now in
    let serves = whole_serves kept line end date last request used c.in_ok-text-in-Whole.text sent
    heard.reads c.in_ok-text-in-Whole.ensures.answers c.as_slice-in-Whole.ensures in
    let failed = c.in_err-write_message-in-Whole.ensures in
    let p = err_from_is_err_and c.from_residual-in_err-write_message-in-Whole.result
    c.from_residual-in_err-write_message-in-Whole.ensures.1 in
    rw (p.1, p.2) (inr (cut old mid new c.args.kept.now kept heard.bytes line date
    (Whole request used) sent (drop used kept) end last heard.kept serves failed.written
    failed.alone))
