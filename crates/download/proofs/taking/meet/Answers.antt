use Rattle.std.specs.Prelude.{Some}
use Rattle.std.proofs.Common.{◌∙◌, ap, subst, sym}
use Rattle.std.proofs.lemmas.Result.{err_from_is_err_and}
use Rattle.download.proofs.Taken.{may_meet, meets_as, met_allowed, still_found}
use Rattle.download.specs.Taking.{is_taking, met_by}
use Rattle.law_licences.specs.Items.{is_resource}
use Rattle.local_store.specs.Rows.{item_of}
use Rattle.local_store.specs.Sound.{IsAllowed}
use Rattle.local_store.specs.Tables.{row_at}
use Rattle.local_store.specs.declared.change.Change.{Change}
use Rattle.local_store.specs.declared.tables.Tables.{Tables}
use Rattle.session.proofs.Ending.{does_starves, ends_then}
use Rattle.session.proofs.Fetched.{gets_shows_none, got_keeps}
use Rattle.session.proofs.Recast.{does_knowing, gives_up_knowing}
use Rattle.session.specs.Findings.{waiting}
use Rattle.session.specs.Making.{MayMakeBy}
use Rattle.session.specs.Parts.{Changes}
use Rattle.session.specs.Sessions.{GetsBytes}
use Rattle.session.specs.Work.{knowing}
use Rattle.session.specs.declared.finding.Finding.TheVariants.{Other}
use Rattle.std.specs.Prelude.{refl}
use Rattle.download.proofs.taking.meet.Goals as goal

pub returns-in_err-fetch_bytes_of : goal.returns-in_err-fetch_bytes_of
returns-in_err-fetch_bytes_of g c = record {
  ends = λ known asks.
      let p = err_from_is_err_and c.from_residual.result c.from_residual.ensures.1 in
      rw (p.1, p.2) (gives_up_knowing is_taking (Some known) (g.W.Session.now c.args.s.now)
      (g.W.Session.now c.fetch_bytes_of.new.s) _ (g.met.W.Session.unshown c.args.s.now)
      (c.in_err-fetch_bytes_of.ensures.ends is_taking refl));
}

pub make_shown-requires-clause-ready : goal.make_shown-requires-clause-ready
make_shown-requires-clause-ready g c = (c.in_ok-fetch_bytes_of.ensures.ends is_taking refl).ready

pub make_shown-requires-clause-allowed : goal.make_shown-requires-clause-allowed
make_shown-requires-clause-allowed g c =
    let id = c.args.id.now in
    let t = (g.W.Session.now c.fetch_bytes_of.new.s).site.tables in
    subst IsAllowed (sym c.met_by.ensures)
    (met_allowed id c.args.remote t c.in_ok-waiting.waiting
    (c.in_ok-waiting.ensures.row ∙ ap (λ (t : Tables). waiting (row_at t id)) c.tables.ensures)
    c.requires.got.sound)

pub returns-in_err-waiting : goal.returns-in_err-waiting
returns-in_err-waiting g c = record {
  ends = λ known asks.
      let id = c.args.id.now in
      let is = is_resource (item_of c.args.remote.1) in
      let p = err_from_is_err_and c.from_residual-in_err-waiting.result
      c.from_residual-in_err-waiting.ensures.1 in
      rw (p.1, p.2) (does_starves
      (does_knowing (GetsBytes id is) is_taking (Some known) (g.W.Session.now c.args.s.now)
      (g.W.Session.now c.fetch_bytes_of.new.s) (g.met.W.Session.unshown c.args.s.now)
      (gets_shows_none id is) (c.in_ok-fetch_bytes_of.ensures.ends is_taking refl)));
}

pub returns : goal.returns
returns g c = record {
  ends = λ known asks.
      let id = c.args.id.now in
      let remote = c.args.remote in
      let is = is_resource (item_of remote.1) in
      let a = g.W.Session.now c.args.s.now in
      let b = g.W.Session.now c.fetch_bytes_of.new.s in
      let row = c.in_ok-waiting.waiting in
      let got = c.in_ok-fetch_bytes_of.ensures.ends is_taking refl in
      let keeps = got_keeps id is is_taking a b got in
      let own = waiting (row_at a.site.tables id) in
      let here = c.in_ok-waiting.ensures.row
      ∙ ap (λ (t : Tables). waiting (row_at t id)) c.tables.ensures in
      ends_then (GetsBytes id is) (Changes (met_by id remote own)) is_taking
      (knowing (Some known) a) (knowing (Some known) b) _ c.make_shown.result
      (does_knowing (GetsBytes id is) is_taking (Some known) a b
      (g.met.W.Session.unshown c.args.s.now) (gets_shows_none id is) got)
      (meets_as id remote row own c.met_by.result _ _ c.make_shown.result
      (here ∙ ap (λ (t : Tables). waiting (row_at t id)) keeps.tables) c.met_by.ensures
      (c.make_shown.ensures.ends (Some known) is_taking
      (subst (λ (change : Change). MayMakeBy (Some known) b.site change) (sym c.met_by.ensures)
      (may_meet id remote b.site known row here asks
      (still_found id (Other remote) a.site b.site keeps c.requires.got.found)))));
}
