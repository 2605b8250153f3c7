use Rattle.std.specs.Prelude.{◌≡◌}
use Rattle.std.proofs.Common.{◌∙◌, ap, subst, sym}
use Rattle.std.proofs.lemmas.Result.{err_from_is_err_and}
use Rattle.jop_target.specs.Trail.{EndsWith, LineNow}
use Rattle.jop_target.specs.declared.call.Call.TheVariants.{GetBlob}
use Rattle.client.specs.Sites.{IsUnmade}
use Rattle.session.proofs.Agreeing.{IsSaved}
use Rattle.session.proofs.Stepped.{bytes_askable, fetched_none, fetched_saved, fetched_unsaved, stays_at}
use Rattle.session.specs.Doing.{Does, GivesNothing}
use Rattle.session.specs.Sessions.{Fetches, gave_bytes}
use Rattle.session.proofs.hand.HandSession.fetch.Goals as goal

pub ask-requires-clause-askable : goal.ask-requires-clause-askable
ask-requires-clause-askable g c = bytes_askable _ _ _ _

pub last-requires : goal.last-requires
last-requires g c =
    let a = c.in_ok-ask.ensures.asks in
    let get = GetBlob c.args.id.now in (
      get,
      a.reply,
      subst (λ (l : LineNow). EndsWith l.trail get a.reply)
          (g.met.S.Client.same_line c.ask.new.site) a.ends,
    )

pub returns-then-not-gave_bytes : goal.returns-then-not-gave_bytes
returns-then-not-gave_bytes g c = record {
  ends = λ sort sorted.
      let a = c.in_ok-ask.ensures.asks in
      let get = GetBlob c.args.id.now in
      let heard : c.last.result.now ≡ a.reply =
      c.last.ensures get a.reply (subst (λ (l : LineNow). EndsWith l.trail get a.reply)
      (g.met.S.Client.same_line c.ask.new.site) a.ends) in
      stays_at (Does (Fetches c.args.id.now) sort _) _ _ _ _ _ _ _ _ c.ask.ensures.stays
      (fetched_none c.args.id.now sort _ _ _ _ _ a sorted
      (ap gave_bytes (sym heard) ∙ (sym c.gave_bytes.ensures ∙ c.if-not-gave_bytes.true)));
}

pub returns-in_err-save_blob : goal.returns-in_err-save_blob
returns-in_err-save_blob g c = record {
  ends = λ sort sorted.
      let p = err_from_is_err_and c.from_residual-in_err-save_blob.result
      c.from_residual-in_err-save_blob.ensures.1 in
      let e = c.in_err-save_blob.ensures in
      let none : IsUnmade (g.S.Client.site c.ask.new.site) (g.S.Client.site c.save_blob.new.self) =
      record { kept = e.err; line = e.same.0; made = e.same.2; tables = e.same.1 } in
      rw (p.1, p.2)
      (stays_at (GivesNothing sort _ _) _ _ _ _ _ _ _ _
      (c.save_blob.ensures.stays ∙ c.ask.ensures.stays)
      (fetched_unsaved _ c.args.id.now sort _ _ _ _ _ _ _ c.in_ok-ask.ensures.asks sorted none
      e.cause));
}

pub returns : goal.returns
returns g c = record {
  ends = λ sort sorted.
      let a = c.in_ok-ask.ensures.asks in
      let get = GetBlob c.args.id.now in
      let heard : c.last.result.now ≡ a.reply =
      c.last.ensures get a.reply (subst (λ (l : LineNow). EndsWith l.trail get a.reply)
      (g.met.S.Client.same_line c.ask.new.site) a.ends) in
      let e = c.in_ok-save_blob.ensures in
      let saved : IsSaved c.args.id.now c.ask.new.bytes (g.S.Client.site c.ask.new.site)
      (g.S.Client.site c.save_blob.new.self) =
      record {
        kept = e.ok;
        well = e.cause.stays (λ e. cc);
        line = e.same.0;
        tables = e.same.1;
        made = e.same.2;
      } in
      stays_at (Does (Fetches c.args.id.now) sort _) _ _ _ _ _ _ _ _
      (c.save_blob.ensures.stays ∙ c.ask.ensures.stays)
      (fetched_saved c.args.id.now sort _ _ _ _ _ _ a sorted
      (ap gave_bytes (sym heard) ∙ (sym c.gave_bytes.ensures ∙ c.if-not-gave_bytes.false))
      saved);
}
