use Rattle.std.specs.Prelude.{None, ℕ, ◌≡◌, refl, true}
use Rattle.std.proofs.Common.{subst, sym}
use Rattle.jop_target.specs.declared.call.Call.TheVariants.{PutBlob}
use Rattle.law_licences.specs.Licences.{MayCall}
use Rattle.session.proofs.Stepped.{at_site, asked, stays_at}
use Rattle.session.specs.Sessions.{HearsOr}
use Rattle.session.specs.Work.{view_of, work_by}
use Rattle.session.proofs.hand.HandSession.put_bytes.Goals as goal

pub ask-requires-clause-askable : goal.ask-requires-clause-askable
ask-requires-clause-askable g c = record {
  working = refl;
  about = refl;
  callable = c.len-len.ensures;
  kept = c.requires.kept;
  may = λ shown.
      subst (λ (len : ℕ).
      MayCall (view_of shown (g.S.Client.site c.args.self.now.site.now)) (PutBlob c.args.id.now len))
      (sym c.len-len.ensures) (c.requires.may shown);
}

pub returns-clause-ends : goal.returns-clause-ends
returns-clause-ends g c = λ sort sorted.
    let id = c.args.id.now in
    let h = c.args.self.now in
    let before = at_site (g.S.Client.place h.site.now) h.site.ghost_name h.lease.ghost_name
    h.report.ghost_name in
    let behind = at_site (g.S.Client.place c.ask.new.site) h.site.ghost_name h.lease.ghost_name
    h.report.ghost_name in
    let old = work_by before None (g.S.Client.site h.site.now) h.lease.now h.report.now in
    let new = work_by behind None (g.S.Client.site c.ask.new.site) c.ask.new.lease h.report.now in
    subst (λ (len : ℕ). HearsOr (PutBlob id len) sort old c.ask.result new) c.len-len.ensures
    (stays_at (HearsOr (PutBlob id _) sort old c.ask.result) _ _ _ _ _ _ _ _ c.ask.ensures.stays
    (asked _ _ sort (PutBlob id _) _ _ _ _ h.report.now c.ask.result (λ reply. refl)
    (λ v r reply. refl) c.ask.ensures.asks
    (subst (λ (len : ℕ). sort (PutBlob id len) ≡ true) (sym c.len-len.ensures) sorted)))
