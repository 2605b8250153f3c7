use Rattle.std.specs.Prelude.{Ok, Err, refl}
use Rattle.std.proofs.lemmas.Result.{err_from_is_err_and}
use Rattle.session_opening.proofs.Judged.{ahead_in_order, stays_ahead}
use Rattle.session_opening.proofs.Opened.{lawful_joined, lawful_read, merges_joined, merges_read, opened, reading_within, stops_joining}
use Rattle.session_opening.proofs.HeadwayPuts.{opens_progress}
use Rattle.session_opening.specs.Opening.{RefusesTarget, is_joining, is_opening, is_reading}
use Rattle.session_opening.specs.Verdict.{verdict_in}
use Rattle.session.proofs.Behind.{went_given_up}
use Rattle.session.proofs.Refusing.{refuses_within, went_refused}
use Rattle.session_opening.proofs.opening.open_session.Goals as goal

pub returns-in_err-remote-clause-opens : goal.returns-in_err-remote-clause-opens
returns-in_err-remote-clause-opens g c =
    let p = err_from_is_err_and c.from_residual.result c.from_residual.ensures.1 in
    rw (p.1, p.2)
    (refuses_within RefusesTarget is_reading is_opening _ _ _ reading_within
    c.in_err-remote.ensures.reads)

pub returns-in_err-remote-clause-lawful : goal.returns-in_err-remote-clause-lawful
returns-in_err-remote-clause-lawful g c =
    let a = g.W.Session.now c.args.s.now in
    let b = g.W.Session.now c.read_supported.new.s in
    lawful_read a b c.requires.ready.held c.requires.sync c.requires.lawful
    (went_refused RefusesTarget is_reading a b _ c.in_err-remote.ensures.reads)

pub returns-in_err-remote-clause-merges : goal.returns-in_err-remote-clause-merges
returns-in_err-remote-clause-merges g c =
    let a = g.W.Session.now c.args.s.now in
    let b = g.W.Session.now c.read_supported.new.s in
    merges_read a b (went_refused RefusesTarget is_reading a b _ c.in_err-remote.ensures.reads)

pub returns-in_err-join_info-clause-opens : goal.returns-in_err-join_info-clause-opens
returns-in_err-join_info-clause-opens g c =
    let p = err_from_is_err_and c.from_residual-in_err-join_info.result
    c.from_residual-in_err-join_info.ensures.1 in
    rw (p.1, p.2) (stops_joining _ _ (g.W.Session.now c.read_supported.new.s) _ _
    c.in_ok-remote.ensures.reads c.in_err-join_info.ensures.ends.0)

pub returns-in_err-join_info-clause-lawful : goal.returns-in_err-join_info-clause-lawful
returns-in_err-join_info-clause-lawful g c =
    let now = g.W.Session.now in
    let b = now c.read_supported.new.s in
    let d = now c.join_info.new.s in
    (lawful_joined _ (now c.args.s.now) b d c.requires.ready c.requires.sync c.requires.lawful
    c.in_ok-remote.ensures.reads
    (went_given_up is_joining b d _ c.in_err-join_info.ensures.ends.0)).lawful

pub returns-in_err-join_info-clause-merges : goal.returns-in_err-join_info-clause-merges
returns-in_err-join_info-clause-merges g c =
    let now = g.W.Session.now in
    merges_joined _ (now c.args.s.now) (now c.read_supported.new.s) (now c.join_info.new.s)
    c.join_info.result c.in_ok-remote.ensures.reads c.join_info.ensures.ends.0
    c.join_info.ensures.ends.1

pub returns-clause-opens : goal.returns-clause-opens
returns-clause-opens g c =
    opened _ _ (g.W.Session.now c.read_supported.new.s) _ c.in_ok-remote.ensures.reads
    c.in_ok-join_info.ensures.ends.0

pub returns-clause-lawful : goal.returns-clause-lawful
returns-clause-lawful g c =
    let now = g.W.Session.now in
    (lawful_joined _ (now c.args.s.now) (now c.read_supported.new.s) (now c.join_info.new.s)
    c.requires.ready c.requires.sync c.requires.lawful c.in_ok-remote.ensures.reads
    c.in_ok-join_info.ensures.ends.0.went).lawful

pub returns-clause-told : goal.returns-clause-told
returns-clause-told g c =
    let now = g.W.Session.now in
    (lawful_joined _ (now c.args.s.now) (now c.read_supported.new.s) (now c.join_info.new.s)
    c.requires.ready c.requires.sync c.requires.lawful c.in_ok-remote.ensures.reads
    c.in_ok-join_info.ensures.ends.0.went).informed _ refl

pub returns-clause-merges : goal.returns-clause-merges
returns-clause-merges g c =
    let now = g.W.Session.now in
    merges_joined _ (now c.args.s.now) (now c.read_supported.new.s) (now c.join_info.new.s)
    c.join_info.result c.in_ok-remote.ensures.reads c.join_info.ensures.ends.0
    c.join_info.ensures.ends.1

pub returns-in_err-remote-clause-order : goal.returns-in_err-remote-clause-order
returns-in_err-remote-clause-order g c =
    let p = err_from_is_err_and c.from_residual.result c.from_residual.ensures.1 in
    rw (p.1, p.2) c.in_err-remote.ensures.order

pub returns-in_err-join_info-clause-order : goal.returns-in_err-join_info-clause-order
returns-in_err-join_info-clause-order g c = λ due.
    let b = g.W.Session.now c.read_supported.new.s in
    let d = g.W.Session.now c.join_info.new.s in
    let p = err_from_is_err_and c.from_residual-in_err-join_info.result
    c.from_residual-in_err-join_info.ensures.1 in
    rw (p.1, p.2) (ahead_in_order _ (verdict_in d)
    (stays_ahead is_joining b d (went_given_up is_joining b d _ c.in_err-join_info.ensures.ends.0)
    (c.in_ok-remote.ensures.order due)))

pub returns-clause-order : goal.returns-clause-order
returns-clause-order g c = λ due.
    stays_ahead is_joining (g.W.Session.now c.read_supported.new.s)
    (g.W.Session.now c.join_info.new.s) c.in_ok-join_info.ensures.ends.0.went
    (c.in_ok-remote.ensures.order due)

pub returns-in_err-remote-clause-progress : goal.returns-in_err-remote-clause-progress
returns-in_err-remote-clause-progress g c = λ unread.
    let p = err_from_is_err_and c.from_residual.result c.from_residual.ensures.1 in
    rw (p.1, p.2) (c.in_err-remote.ensures.progress _ unread)

pub returns-in_err-join_info-clause-progress : goal.returns-in_err-join_info-clause-progress
returns-in_err-join_info-clause-progress g c = λ unread.
    let now = g.W.Session.now in
    let p = err_from_is_err_and c.from_residual-in_err-join_info.result
    c.from_residual-in_err-join_info.ensures.1 in
    rw (p.1, p.2) (opens_progress _ (now c.args.s.now) (now c.read_supported.new.s)
    (now c.join_info.new.s) (Err _) c.in_ok-remote.ensures.reads.does
    c.in_err-join_info.ensures.ends.0 (c.in_ok-remote.ensures.progress _ unread)
    c.in_err-join_info.ensures.progress)

pub returns-clause-progress : goal.returns-clause-progress
returns-clause-progress g c = λ unread.
    let now = g.W.Session.now in
    opens_progress _ (now c.args.s.now) (now c.read_supported.new.s) (now c.join_info.new.s)
    (Ok _) c.in_ok-remote.ensures.reads.does c.in_ok-join_info.ensures.ends.0
    (c.in_ok-remote.ensures.progress _ unread) c.in_ok-join_info.ensures.progress
