use Rattle.std.proofs.Common.{◌∙◌, ap, sym}
use Rattle.std.proofs.lemmas.Result.{err_from_is_err_and}
use Rattle.client.specs.Sites.{SiteNow}
use Rattle.lease.proofs.Sessions.{has_room}
use Rattle.sync_session.proofs.Ordered.{none_in_order, open_in_order, whole_in_order}
use Rattle.sync_session.proofs.Whole.{has_begun_sync, line_open, line_same, line_whole, none_open, open_after, whole_after}
use Rattle.sync_session.proofs.Wanted.{none_by_key, open_by_key, whole_by_key}
use Rattle.sync_session.proofs.syncing.make_session.Goals as goal

pub take_and_sync-outcome-requires : goal.take_and_sync-outcome-requires
take_and_sync-outcome-requires g c = record {
  begun = has_begun_sync _ _ _ c.in_ok-begin.ensures.writes c.requires.tidy;
}

pub returns-in_err-begin-clause-session : goal.returns-in_err-begin-clause-session
returns-in_err-begin-clause-session g c =
    let p = err_from_is_err_and c.from_residual.result c.from_residual.ensures.1 in
    let same = c.in_err-begin.ensures.writes in
    rw (p.1, p.2)
    (none_open _ _ _ (ap (λ (d : SiteNow). d.line.trail) same)
    (ap (λ (d : SiteNow). d.made) same) (ap (λ (d : SiteNow). d.keeper.kept) same))

pub returns-in_err-begin-clause-line : goal.returns-in_err-begin-clause-line
returns-in_err-begin-clause-line g c = line_same _ _ _ c.in_err-begin.ensures.writes

-- there was room for the end
pub returns-in_err-end : goal.returns-in_err-end
returns-in_err-end g c =
    absurd (has_room _ _ c.take_and_sync-outcome.ensures.runs.goes.goes.running
    c.in_err-end.ensures.ends)

pub returns-in_ok-end-clause-session : goal.returns-in_ok-end-clause-session
returns-in_ok-end-clause-session g c =
    let ended = sym c.has_ended.ensures ∙ c.if-has_ended.true in
    whole_after _ _ _ _ _ _ ended c.in_ok-begin.ensures.writes
    c.take_and_sync-outcome.ensures.runs c.in_ok-end.ensures.writes

pub returns-in_ok-end-clause-line : goal.returns-in_ok-end-clause-line
returns-in_ok-end-clause-line g c =
    line_whole _ _ _ _ _ c.in_ok-begin.ensures.writes
    c.take_and_sync-outcome.ensures.runs.goes c.in_ok-end.ensures.writes

pub returns-else-has_ended-clause-session : goal.returns-else-has_ended-clause-session
returns-else-has_ended-clause-session g c =
    let unended = sym c.has_ended.ensures ∙ c.if-has_ended.false in
    open_after _ _ _ _ _ unended c.in_ok-begin.ensures.writes
    c.take_and_sync-outcome.ensures.runs

pub returns-else-has_ended-clause-line : goal.returns-else-has_ended-clause-line
returns-else-has_ended-clause-line g c =
    line_open _ _ _ _ c.in_ok-begin.ensures.writes c.take_and_sync-outcome.ensures.runs.goes

pub returns-in_err-begin-clause-order : goal.returns-in_err-begin-clause-order
returns-in_err-begin-clause-order g c = none_in_order _ _ _ c.in_err-begin.ensures.writes

pub returns-in_ok-end-clause-order : goal.returns-in_ok-end-clause-order
returns-in_ok-end-clause-order g c =
    let took = c.take_and_sync-outcome.ensures in
    whole_in_order c.args.client.now _ _ _ _ _ c.in_ok-begin.ensures.writes took.runs.goes
    c.in_ok-end.ensures.writes took.order

pub returns-else-has_ended-clause-order : goal.returns-else-has_ended-clause-order
returns-else-has_ended-clause-order g c =
    let took = c.take_and_sync-outcome.ensures in
    open_in_order c.args.client.now _ _ (g.S.Client.site c.take_and_sync-outcome.new.site) _
    c.in_ok-begin.ensures.writes took.runs.goes took.order

pub returns-in_err-begin-clause-key : goal.returns-in_err-begin-clause-key
returns-in_err-begin-clause-key g c = none_by_key _ _ _ c.in_err-begin.ensures.writes

pub returns-in_ok-end-clause-key : goal.returns-in_ok-end-clause-key
returns-in_ok-end-clause-key g c =
    let took = c.take_and_sync-outcome.ensures in
    whole_by_key c.args.client.now _ _ _ _ _ c.in_ok-begin.ensures.writes took.runs.goes
    c.in_ok-end.ensures.writes took.key

pub returns-else-has_ended-clause-key : goal.returns-else-has_ended-clause-key
returns-else-has_ended-clause-key g c =
    let took = c.take_and_sync-outcome.ensures in
    open_by_key c.args.client.now _ _ (g.S.Client.site c.take_and_sync-outcome.new.site) _
    c.in_ok-begin.ensures.writes took.runs.goes took.key
