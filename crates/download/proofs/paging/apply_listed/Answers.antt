use Rattle.download.proofs.Paged.{downloads, page_heeds}
use Rattle.law_licences.specs.Views.{shown_to}
use Rattle.download.proofs.paging.apply_listed.Goals as goal

pub apply-requires-clause-ready : goal.apply-requires-clause-ready
apply-requires-clause-ready g c = c.in_ok-page.ensures.ends.does.ready

pub apply-requires-clause-listed : goal.apply-requires-clause-listed
apply-requires-clause-listed g c =
    let h = c.in_ok-page.ensures.ends in
    (shown_to (g.W.Session.now c.args.s.now).site.tables h.listing, h.is)

pub returns : goal.returns
returns g c = record {
  ends =
      let now = g.W.Session.now in
      let a = now c.args.s.now in
      let h = c.in_ok-page.ensures.ends in
      downloads a (now c.list.new.s) (now c.apply.new.s) c.in_ok-page.page c.apply.result h
      (g.met.W.Session.unshown c.apply.new.s)
      (c.apply.ensures.ends (shown_to a.site.tables h.listing) h.is);
  emptied =
      let now = g.W.Session.now in
      let a = now c.args.s.now in
      let h = c.in_ok-page.ensures.ends in
      page_heeds _ a (now c.list.new.s) (now c.apply.new.s) c.in_ok-page.page c.apply.result h
      (c.apply.ensures.ends (shown_to a.site.tables h.listing) h.is);
}
