use Rattle.std.specs.Prelude.{refl}
use Rattle.std.proofs.Common.{◌∙◌}
use Rattle.std.proofs.lemmas.Result.{err_from_is_err_and}
use Rattle.download.proofs.Emptied.{heeds_vain}
use Rattle.download.proofs.Paged.{list_heeds, listed_by, lists, page_at}
use Rattle.download.specs.Downloading.{is_download}
use Rattle.download.specs.Reading.{RefusesDownload}
use Rattle.jop_base.specs.declared.dir.Dir.TheVariants.{Root}
use Rattle.jop_target.specs.declared.call.Call.TheVariants.{List as ListDir}
use Rattle.session.proofs.Behind.{went_given_up}
use Rattle.session.proofs.Refusing.{not_refused}
use Rattle.download.proofs.paging.list.Goals as goal

pub last-requires : goal.last-requires
last-requires g c =
    let heard = c.in_ok-ask.ensures.ends is_download refl in
    (ListDir Root, heard.reply, heard.ends)

pub page_of-requires : goal.page_of-requires
page_of-requires g c =
    let heard = c.in_ok-ask.ensures.ends is_download refl in
    let l = listed_by heard.reply heard.answer.0 heard.answer.1 in
    (l.0, c.last.ensures (ListDir Root) heard.reply heard.ends ∙ l.1)

pub returns-in_err-ask : goal.returns-in_err-ask
returns-in_err-ask g c = record {
  ends =
      let p = err_from_is_err_and c.from_residual.result c.from_residual.ensures.1 in
      rw (p.1, p.2) (not_refused RefusesDownload is_download _ _ _
      (c.in_err-ask.ensures.ends is_download refl));
  emptied = heeds_vain _ is_download (g.W.Session.now c.args.s.now) (g.W.Session.now c.ask.new.self)
      c.in_err-ask.ensures.once
      (went_given_up is_download _ _ _ (c.in_err-ask.ensures.ends is_download refl));
}

pub returns : goal.returns
returns g c = record {
  ends =
      let heard = c.in_ok-ask.ensures.ends is_download refl in
      let a = g.W.Session.now c.args.s.now in
      lists a (g.W.Session.now c.ask.new.self) c.page_of.result heard
      (page_at c.tables.result.now a.site.tables c.last.result.now heard.reply c.page_of.result
      (c.tables.ensures ∙ c.ask.ensures.same.tables)
      (c.last.ensures (ListDir Root) heard.reply heard.ends) c.page_of.ensures);
  emptied =
      let heard = c.in_ok-ask.ensures.ends is_download refl in
      let a = g.W.Session.now c.args.s.now in
      list_heeds a (g.W.Session.now c.ask.new.self) c.page_of.result heard
      (page_at c.tables.result.now a.site.tables c.last.result.now heard.reply c.page_of.result
      (c.tables.ensures ∙ c.ask.ensures.same.tables)
      (c.last.ensures (ListDir Root) heard.reply heard.ends) c.page_of.ensures);
}
