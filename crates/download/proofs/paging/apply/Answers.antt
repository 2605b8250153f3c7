use Rattle.std.specs.Prelude.{Some}
use Rattle.std.proofs.Common.{subst, sym}
use Rattle.std.proofs.lemmas.Result.{err_from_is_err_and}
use Rattle.conflicts.specs.declared.error.StepErr.TheVariants.{NoMemory}
use Rattle.download.proofs.Paged.{all_asked, all_lack, may_finish, page_left, page_taken}
use Rattle.download.specs.Downloading.{LeavesGone}
use Rattle.download.specs.Taking.{TakesOne, is_taking}
use Rattle.law_licences.specs.Views.{Finished}
use Rattle.local_store.specs.declared.change.Change.TheVariants.{ContextIs}
use Rattle.session.proofs.Ending.{does_starves, ends_at, gives_up_behind}
use Rattle.session.specs.Doing.{EndsAt}
use Rattle.session.specs.Making.{MayMakeBy}
use Rattle.session.specs.Parts.{Changes, ForEach, Then}
use Rattle.session.specs.Work.{knowing}
use Rattle.download.proofs.paging.apply.Goals as goal

pub take_listed-requires-clause-asked : goal.take_listed-requires-clause-asked
take_listed-requires-clause-asked g c =
    let listed = c.requires.listed in
    (listed.0, all_asked listed.0 c.args.page.now _ listed.1 c.as_slice.ensures)

pub returns-in_err-take_listed : goal.returns-in_err-take_listed
returns-in_err-take_listed g c = record {
  ends = λ known is.
      let p = err_from_is_err_and c.from_residual.result c.from_residual.ensures.1 in
      rw (p.1, p.2) (c.in_err-take_listed.ensures.ends known
      (all_asked known c.args.page.now _ is c.as_slice.ensures));
}

pub leave-requires-clause-ready : goal.leave-requires-clause-ready
leave-requires-clause-ready g c =
    let listed = c.requires.listed in
    let now = g.W.Session.now in
    (page_taken listed.0 c.args.page.now _ (now c.args.s.now) (now c.take_listed.new.s) listed.1
    c.as_slice.ensures c.in_ok-take_listed.ensures.ends).ready

pub leave-requires-clause-gone : goal.leave-requires-clause-gone
leave-requires-clause-gone g c =
    let listed = c.requires.listed in
    (listed.0, all_lack listed.0 c.args.page.now _ listed.1 c.as_slice-2.ensures)

pub returns-in_err-leave : goal.returns-in_err-leave
returns-in_err-leave g c = record {
  ends = λ known is.
      let p = err_from_is_err_and c.from_residual-in_err-leave.result
      c.from_residual-in_err-leave.ensures.1 in
      let page = c.args.page.now in
      let now = g.W.Session.now in
      rw (p.1, p.2) (gives_up_behind (ForEach TakesOne page.taken) is_taking
      (knowing (Some known) (now c.args.s.now)) (knowing (Some known) (now c.take_listed.new.s)) _ _
      (page_taken known page _ (now c.args.s.now) (now c.take_listed.new.s) is c.as_slice.ensures
      c.in_ok-take_listed.ensures.ends)
      (c.in_err-leave.ensures.ends known (all_lack known page _ is c.as_slice-2.ensures)));
}

pub returns-in_err-next : goal.returns-in_err-next
returns-in_err-next g c = record {
  ends = λ known is.
      let p = err_from_is_err_and c.from_residual-in_err-next.result
      c.from_residual-in_err-next.ensures.1 in
      let page = c.args.page.now in
      let now = g.W.Session.now in
      rw (p.1, p.2) (gives_up_behind (ForEach TakesOne page.taken) is_taking
      (knowing (Some known) (now c.args.s.now)) (knowing (Some known) (now c.take_listed.new.s))
      (knowing (Some known) (now c.leave.new.s)) NoMemory
      (page_taken known page _ (now c.args.s.now) (now c.take_listed.new.s) is c.as_slice.ensures
      c.in_ok-take_listed.ensures.ends)
      (does_starves
      (page_left known page _ (now c.take_listed.new.s) (now c.leave.new.s) is c.as_slice-2.ensures
      c.in_ok-leave.ensures.ends)));
}

pub make_shown-requires-clause-ready : goal.make_shown-requires-clause-ready
make_shown-requires-clause-ready g c =
    let listed = c.requires.listed in
    let now = g.W.Session.now in
    (page_left listed.0 c.args.page.now _ (now c.take_listed.new.s) (now c.leave.new.s) listed.1
    c.as_slice-2.ensures c.in_ok-leave.ensures.ends).ready

pub returns : goal.returns
returns g c = record {
  ends = λ known is.
      let page = c.args.page.now in
      let now = g.W.Session.now in
      let a = now c.args.s.now in
      let b = now c.take_listed.new.s in
      let d = now c.leave.new.s in
      let e = now c.make_shown.new.self in
      ends_at Finished (ForEach TakesOne page.taken)
      (Then (LeavesGone page.gone) (Changes (ContextIs page.next))) is_taking
      (knowing (Some known) a) (knowing (Some known) b) _ c.make_shown.result
      (page_taken known page _ a b is c.as_slice.ensures c.in_ok-take_listed.ensures.ends)
      (ends_at Finished (LeavesGone page.gone) (Changes (ContextIs page.next)) is_taking
      (knowing (Some known) b) (knowing (Some known) d) _ c.make_shown.result
      (page_left known page _ b d is c.as_slice-2.ensures c.in_ok-leave.ensures.ends)
      (subst (λ x. EndsAt Finished (Changes (ContextIs x)) is_taking (knowing (Some known) d)
      c.make_shown.result (knowing (Some known) e)) c.in_ok-next.ensures
      (c.make_shown.ensures.ends (Some known) is_taking
      (subst (λ x. MayMakeBy (Some known) d.site (ContextIs x)) (sym c.in_ok-next.ensures)
      (may_finish known page d.site is)))));
}
