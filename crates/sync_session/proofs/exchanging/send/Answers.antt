use Rattle.std.proofs.lemmas.Result.{err_from_is_err_and}
use Rattle.session.proofs.Wider.{gives_up_within}
use Rattle.upload.specs.Uploading.{is_upload}
use Rattle.sync_session.proofs.Exchanged.{ends_sends, leaves_nothing, upload_sent}
use Rattle.sync_session.specs.Working.{is_sending}
use Rattle.sync_session.proofs.exchanging.send.Goals as goal

pub returns-in_err-upload_waiting-clause-ends : goal.returns-in_err-upload_waiting-clause-ends
returns-in_err-upload_waiting-clause-ends g c =
    let p = err_from_is_err_and c.from_residual.result c.from_residual.ensures.1 in
    rw (p.1, p.2)
    (gives_up_within is_upload is_sending _ _ _ upload_sent
    c.in_err-upload_waiting.ensures.ends)

pub returns-clause-ends : goal.returns-clause-ends
returns-clause-ends g c =
    let now = g.W.Session.now in
    ends_sends (now c.args.s.now) (now c.upload_waiting.new.s) _ c.delete_listed.result
    c.in_ok-upload_waiting.ensures.ends c.delete_listed.ensures.ends

pub returns-clause-nothing : goal.returns-clause-nothing
returns-clause-nothing g c =
    let uploaded = c.in_ok-upload_waiting.ensures in
    leaves_nothing (g.W.Session.now c.upload_waiting.new.s) _ c.delete_listed.result
    (g.met.W.Session.unshown c.upload_waiting.new.s) uploaded.ends.ready.tidy.sound
    uploaded.settled c.delete_listed.ensures.ends
