use Rattle.std.specs.Prelude.{◌≡◌}
use Rattle.std.proofs.Common.{◌∙◌, subst}
use Rattle.std.proofs.lemmas.Result.{err_from_is_err_and}
use Rattle.jop_base.specs.declared.path.Path.TheVariants.{Item}
use Rattle.jop_target.specs.Trail.{EndsWith, LineNow}
use Rattle.jop_target.specs.declared.call.Call.TheVariants.{Get}
use Rattle.jop_target.specs.declared.reply.Reply.{Reply}
use Rattle.local_store.specs.Tables.{base_of, row_at}
use Rattle.local_store.specs.declared.tables.Tables.{Tables}
use Rattle.session.proofs.Stepped.{file_askable, found, starves_got, stays_at}
use Rattle.session.specs.Doing.{Does, GivesNothing, Starves}
use Rattle.session.specs.Findings.{Judges}
use Rattle.session.specs.Sessions.{FindsFile}
use Rattle.session.proofs.hand.HandSession.find.Goals as goal

pub ask-requires-clause-askable : goal.ask-requires-clause-askable
ask-requires-clause-askable g c = file_askable _ _ _ _

pub last-requires : goal.last-requires
last-requires g c =
    let a = c.in_ok-ask.ensures.asks in
    let get = Get (Item c.args.id.now) in (
      get,
      a.reply,
      subst (λ (l : LineNow). EndsWith l.trail get a.reply)
          (g.met.S.Client.same_line c.ask.new.site) a.ends,
    )

pub returns-clause-ends : goal.returns-clause-ends
returns-clause-ends g c = λ sort sorted.
    let id = c.args.id.now in
    let a = c.in_ok-ask.ensures.asks in
    let get = Get (Item id) in
    let heard : c.last.result.now ≡ a.reply =
    c.last.ensures get a.reply (subst (λ (l : LineNow). EndsWith l.trail get a.reply)
    (g.met.S.Client.same_line c.ask.new.site) a.ends) in
    let told =
    subst (λ (t : Tables). Judges id (base_of (row_at t id)) a.reply c.in_ok-finding.finding)
    (c.tables.ensures ∙ c.ask.ensures.same.tables)
    (subst (λ (reply : Reply).
    Judges id (base_of (row_at c.tables.result.now id)) reply c.in_ok-finding.finding) heard
    c.in_ok-finding.ensures.judges) in
    stays_at (Does (FindsFile id _) sort _) _ _ _ _ _ _ _ _ c.ask.ensures.stays
    (found id sort _ _ _ _ _ _ _ a sorted told c.in_ok-finding.ensures.noted)

pub returns-in_err-ask-clause-ends : goal.returns-in_err-ask-clause-ends
returns-in_err-ask-clause-ends g c = λ sort sorted.
    let p = err_from_is_err_and c.from_residual.result c.from_residual.ensures.1 in
    rw (p.1, p.2)
    (stays_at (GivesNothing sort _ _) _ _ _ _ _ _ _ _ c.ask.ensures.stays
    (c.in_err-ask.ensures.asks sort _ _ sorted))

pub returns-in_err-finding-clause-ends : goal.returns-in_err-finding-clause-ends
returns-in_err-finding-clause-ends g c = λ sort sorted.
    let p = err_from_is_err_and c.from_residual-in_err-finding.result
    c.from_residual-in_err-finding.ensures.1 in
    rw (p.1, p.2)
    (stays_at (Starves sort _) _ _ _ _ _ _ _ _ c.ask.ensures.stays
    (starves_got c.args.id.now sort _ _ _ _ _ _ c.in_ok-ask.ensures.asks sorted))
