use Rattle.std.proofs.Common.{arith, subst, sym}
use Rattle.std.proofs.lemmas.List.Elements.{All-get_or}
use Rattle.std.proofs.lemmas.Result.{err_from_is_err_and}
use Rattle.download.specs.Asked.{PageAsksFor}
use Rattle.download.specs.Taking.{TakesOne, is_taking}
use Rattle.session.proofs.Ending.{does_nothing, gives_up_behind}
use Rattle.session.proofs.Repeating.{does_all, does_here}
use Rattle.session.specs.Parts.{ForEach}
use Rattle.download.proofs.taking.take_listed.Goals as goal

pub loop-index-init : goal.loop-index-init
unfolding ForEach
loop-index-init g c = record {
  does = λ known asks. does_nothing is_taking _ c.requires.ready;
}

pub take_one-requires : goal.take_one-requires
take_one-requires g c = record {
  ready = (c.loop-index.invariant.does c.requires.asked.0 c.requires.asked.1).ready;
}

pub loop-index-preserved : goal.loop-index-preserved
loop-index-preserved g c =
    let ids = c.args.ids.now in
    let i = c.loop-index.index in
    let id = c.index-ids-index.result in
    record {
      does = λ known asks.
          does_here TakesOne is_taking ids i id _ _ _ (omega arith) c.index-ids-index.is
          (c.loop-index.invariant.does known asks)
          (c.in_ok-take_one.ensures.ends known
          (subst (PageAsksFor known) (sym c.index-ids-index.is)
          (All-get_or (PageAsksFor known) ids i id (omega arith) asks)));
    }

pub returns-in_err-take_one : goal.returns-in_err-take_one
returns-in_err-take_one g c = record {
  ends = λ known asks.
      let p = err_from_is_err_and c.from_residual.result c.from_residual.ensures.1 in
      rw (p.1, p.2) (gives_up_behind _ _ _ _ _ _ (c.loop-index.invariant.does known asks)
      (c.in_err-take_one.ensures.ends known
      (subst (PageAsksFor known) (sym c.index-ids-index.is)
      (All-get_or (PageAsksFor known) c.args.ids.now c.loop-index.index c.index-ids-index.result
      (omega arith) asks))));
}

pub returns : goal.returns
returns g c = record {
  ends = λ known asks.
      does_all TakesOne is_taking c.args.ids.now c.loop-index.index _ _ (omega arith)
      (c.loop-index.invariant.does known asks);
}
