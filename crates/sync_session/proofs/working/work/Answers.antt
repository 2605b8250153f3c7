use Rattle.std.proofs.Common.{◌∙◌, Ok, Option, ap, subst, sym}
use Rattle.std.proofs.lemmas.Result.{err_from_is_err_and}
use Rattle.conflicts.specs.declared.refusal.Refusal.{Refusal}
use Rattle.local_store.specs.declared.tables.Tables.{Tables}
use Rattle.session_opening.proofs.Judged.{ahead_in_order, stays_ahead}
use Rattle.session_opening.proofs.Merged.{merged_opened}
use Rattle.sync_session.proofs.Ordered.{of_step_in_order, unread}
use Rattle.sync_session.proofs.Worked.{between_step, can_put, heeds_keyless, heeds_opened, heeds_unopened, lawful_behind, merges_behind, opened, unput_opened, went_stopped, works_behind, works_done, works_keyless, works_unopened}
use Rattle.sync_session.specs.Keys.{RefusesKeys, RefusesKeysOr, needs_key}
use Rattle.sync_session.specs.Working.{is_exchange}
use Rattle.sync_session.proofs.Wanted.{first_unread, refused_by_key, spared_by_key, stopped_by_key}
use Rattle.sync_session.proofs.working.work.Goals as goal

pub returns-in_err-open_session-clause-ends : goal.returns-in_err-open_session-clause-ends
returns-in_err-open_session-clause-ends g c =
    let p = err_from_is_err_and c.from_residual.result c.from_residual.ensures.1 in
    rw (p.1, p.2) (works_unopened _ _ _ c.in_err-open_session.ensures.opens)

pub returns-in-Some-clause-ends : goal.returns-in-Some-clause-ends
returns-in-Some-clause-ends g c =
    works_keyless _ _ c.tables.result.now _ c.in_ok-open_session.ensures.opens c.tables.ensures
    (subst (λ (o : Option Refusal). RefusesKeysOr c.tables.result.now o) c.in-Some.is
    c.key_refusal.ensures)

pub exchange-requires : goal.exchange-requires
exchange-requires g c =
    let now = g.W.Session.now in
    let b = now c.open_session.new.s in
    record {
      can = record {
        ready = c.in_ok-open_session.ensures.opens.ready;
        readable =
            can_put b.site (merged_opened (now c.args.s.now) b c.in_ok-open_session.ensures.opens)
            (ap needs_key (sym c.tables.ensures)
            ∙ subst (λ (o : Option Refusal). RefusesKeysOr c.tables.result.now o) c.in_default.is
            c.key_refusal.ensures);
        first = unput_opened (now c.args.s.now) b c.requires.starts.first c.in_ok-open_session.ensures.opens;
      };
    }

pub returns-in_err-exchange-clause-ends : goal.returns-in_err-exchange-clause-ends
returns-in_err-exchange-clause-ends g c =
    let p = err_from_is_err_and c.from_residual-in_err-exchange.result
    c.from_residual-in_err-exchange.ensures.1 in
    rw (p.1, p.2)
    (works_behind _ (g.W.Session.now c.open_session.new.s) _ _ c.in_ok-open_session.ensures.opens
    c.in_err-exchange.ensures.ends)

pub returns-in_err-exchange-clause-merges : goal.returns-in_err-exchange-clause-merges
returns-in_err-exchange-clause-merges g c =
    let now = g.W.Session.now in
    let a = now c.args.s.now in
    let b = now c.open_session.new.s in
    let done = c.in_ok-open_session.ensures in
    merges_behind a b (now c.exchange.new.s)
    (opened a b c.requires.starts.sync done.opens done.lawful done.told done.merges)
    (went_stopped b _ _ c.in_err-exchange.ensures.ends)

pub returns-in_err-exchange-clause-lawful : goal.returns-in_err-exchange-clause-lawful
returns-in_err-exchange-clause-lawful g c =
    let now = g.W.Session.now in
    let a = now c.args.s.now in
    let b = now c.open_session.new.s in
    let done = c.in_ok-open_session.ensures in
    lawful_behind a b (now c.exchange.new.s)
    (opened a b c.requires.starts.sync done.opens done.lawful done.told done.merges)
    (went_stopped b _ _ c.in_err-exchange.ensures.ends)

pub returns-clause-ends : goal.returns-clause-ends
returns-clause-ends g c =
    works_done _ (g.W.Session.now c.open_session.new.s) _ c.requires.starts.first
    c.in_ok-open_session.ensures.opens c.in_ok-exchange.ensures.ends

pub returns-clause-merges : goal.returns-clause-merges
returns-clause-merges g c =
    let now = g.W.Session.now in
    let a = now c.args.s.now in
    let b = now c.open_session.new.s in
    let done = c.in_ok-open_session.ensures in
    merges_behind a b (now c.exchange.new.s)
    (opened a b c.requires.starts.sync done.opens done.lawful done.told done.merges)
    c.in_ok-exchange.ensures.ends.0.went

pub returns-clause-lawful : goal.returns-clause-lawful
returns-clause-lawful g c =
    let now = g.W.Session.now in
    let a = now c.args.s.now in
    let b = now c.open_session.new.s in
    let done = c.in_ok-open_session.ensures in
    lawful_behind a b (now c.exchange.new.s)
    (opened a b c.requires.starts.sync done.opens done.lawful done.told done.merges)
    c.in_ok-exchange.ensures.ends.0.went

pub returns-in_err-open_session-clause-order : goal.returns-in_err-open_session-clause-order
returns-in_err-open_session-clause-order g c =
    let p = err_from_is_err_and c.from_residual.result c.from_residual.ensures.1 in
    rw (p.1, p.2)
    (of_step_in_order _ _
    (c.in_err-open_session.ensures.order
    (unread (g.W.Session.now c.args.s.now) c.requires.starts.first)))

pub returns-in-Some-clause-order : goal.returns-in-Some-clause-order
returns-in-Some-clause-order g c =
    ahead_in_order _ _
    (c.in_ok-open_session.ensures.order
    (unread (g.W.Session.now c.args.s.now) c.requires.starts.first))

pub returns-in_err-exchange-clause-order : goal.returns-in_err-exchange-clause-order
returns-in_err-exchange-clause-order g c =
    let now = g.W.Session.now in
    let b = now c.open_session.new.s in
    ahead_in_order _ _
    (stays_ahead is_exchange b (now c.exchange.new.s)
    (went_stopped b _ _ c.in_err-exchange.ensures.ends)
    (c.in_ok-open_session.ensures.order (unread (now c.args.s.now) c.requires.starts.first)))

pub returns-clause-order : goal.returns-clause-order
returns-clause-order g c =
    let now = g.W.Session.now in
    ahead_in_order _ _
    (stays_ahead is_exchange (now c.open_session.new.s) (now c.exchange.new.s)
    c.in_ok-exchange.ensures.ends.0.went
    (c.in_ok-open_session.ensures.order (unread (now c.args.s.now) c.requires.starts.first)))

pub returns-in_err-open_session-clause-key : goal.returns-in_err-open_session-clause-key
returns-in_err-open_session-clause-key g c =
    let p = err_from_is_err_and c.from_residual.result c.from_residual.ensures.1 in
    let t = (g.W.Session.now c.args.s.now).site.tables in
    rw (p.1, p.2)
    (stopped_by_key t _ _
    (c.in_err-open_session.ensures.progress (first_unread t.info _ c.requires.starts.first)))

pub returns-in-Some-clause-key : goal.returns-in-Some-clause-key
returns-in-Some-clause-key g c =
    let now = g.W.Session.now in
    let t = (now c.args.s.now).site.tables in
    let u = (now c.open_session.new.s).site.tables in
    refused_by_key t u _ _
    (subst (λ (x : Tables). RefusesKeys c.in-Some.why x) c.tables.ensures
    (subst (λ (o : Option Refusal). RefusesKeysOr c.tables.result.now o) c.in-Some.is
    c.key_refusal.ensures))
    (c.in_ok-open_session.ensures.progress (first_unread t.info _ c.requires.starts.first))

pub returns-in_err-exchange-clause-key : goal.returns-in_err-exchange-clause-key
returns-in_err-exchange-clause-key g c =
    let now = g.W.Session.now in
    let a = now c.args.s.now in
    let b = now c.open_session.new.s in
    spared_by_key a b (now c.exchange.new.s) _ c.in_ok-open_session.ensures.opens
    (ap needs_key (sym c.tables.ensures)
    ∙ subst (λ (o : Option Refusal). RefusesKeysOr c.tables.result.now o) c.in_default.is
    c.key_refusal.ensures)
    (went_stopped b _ _ c.in_err-exchange.ensures.ends)
    (c.in_ok-open_session.ensures.progress (first_unread a.site.tables.info _ c.requires.starts.first))

pub returns-clause-key : goal.returns-clause-key
returns-clause-key g c =
    let now = g.W.Session.now in
    let a = now c.args.s.now in
    let b = now c.open_session.new.s in
    spared_by_key {R = Unit {0}} a b (now c.exchange.new.s) (Ok tt)
    c.in_ok-open_session.ensures.opens
    (ap needs_key (sym c.tables.ensures)
    ∙ subst (λ (o : Option Refusal). RefusesKeysOr c.tables.result.now o) c.in_default.is
    c.key_refusal.ensures)
    c.in_ok-exchange.ensures.ends.0.went
    (c.in_ok-open_session.ensures.progress (first_unread a.site.tables.info _ c.requires.starts.first))

pub returns-in_err-open_session-clause-emptied : goal.returns-in_err-open_session-clause-emptied
returns-in_err-open_session-clause-emptied g c =
    heeds_unopened _ (g.W.Session.now c.args.s.now) (g.W.Session.now c.open_session.new.s) _
    c.in_err-open_session.ensures.opens

pub returns-in-Some-clause-emptied : goal.returns-in-Some-clause-emptied
returns-in-Some-clause-emptied g c =
    heeds_keyless _ (g.W.Session.now c.args.s.now) (g.W.Session.now c.open_session.new.s)
    c.in_ok-open_session.ensures.opens

pub returns-in_err-exchange-clause-emptied : goal.returns-in_err-exchange-clause-emptied
returns-in_err-exchange-clause-emptied g c =
    let now = g.W.Session.now in
    let a = now c.args.s.now in
    let b = now c.open_session.new.s in
    let p = err_from_is_err_and c.from_residual-in_err-exchange.result
    c.from_residual-in_err-exchange.ensures.1 in
    rw (p.1, p.2)
    (heeds_opened _ a b (now c.exchange.new.s) c.in_ok-open_session.ensures.opens
    (went_stopped b _ _ c.in_err-exchange.ensures.ends)
    (between_step b.site (now c.exchange.new.s).site _ c.in_err-exchange.ensures.emptied))

pub returns-clause-emptied : goal.returns-clause-emptied
returns-clause-emptied g c =
    let now = g.W.Session.now in
    heeds_opened _ (now c.args.s.now) (now c.open_session.new.s) (now c.exchange.new.s)
    c.in_ok-open_session.ensures.opens c.in_ok-exchange.ensures.ends.0.went
    c.in_ok-exchange.ensures.emptied
