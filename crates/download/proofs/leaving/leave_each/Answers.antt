use Rattle.std.proofs.Common.{arith, subst, sym}
use Rattle.std.proofs.lemmas.List.Elements.{All-get_or}
use Rattle.std.proofs.lemmas.Result.{err_from_is_err_and}
use Rattle.download.specs.Downloading.{LeavesOne}
use Rattle.download.specs.Reading.{Lacks}
use Rattle.session.proofs.Ending.{does_nothing, gives_up_behind}
use Rattle.session.proofs.Repeating.{does_all, does_here}
use Rattle.session.specs.Parts.{ForEach}
use Rattle.download.specs.Taking.{is_taking}
use Rattle.download.proofs.leaving.leave_each.Goals as goal

pub loop-index-init : goal.loop-index-init
unfolding ForEach
loop-index-init g c = record {
  does = λ known lacks. does_nothing is_taking _ c.requires.ready;
}

pub leave_one-requires-clause-ready : goal.leave_one-requires-clause-ready
leave_one-requires-clause-ready g c =
    (c.loop-index.invariant.does c.requires.gone.0 c.requires.gone.1).ready

pub leave_one-requires-clause-gone : goal.leave_one-requires-clause-gone
leave_one-requires-clause-gone g c =
    let known = c.requires.gone.0 in (
      known,
      subst (Lacks known) (sym c.index-gone-index.is)
          (All-get_or (Lacks known) c.args.gone.now c.loop-index.index c.index-gone-index.result
          (omega arith) c.requires.gone.1),
    )

pub loop-index-preserved : goal.loop-index-preserved
loop-index-preserved g c =
    let gone = c.args.gone.now in
    let i = c.loop-index.index in
    let id = c.index-gone-index.result in
    record {
      does = λ known lacks.
          does_here (LeavesOne c.args.folders) is_taking gone i id _ _ _ (omega arith)
          c.index-gone-index.is (c.loop-index.invariant.does known lacks)
          (c.in_ok-leave_one.ensures.ends known
          (subst (Lacks known) (sym c.index-gone-index.is)
          (All-get_or (Lacks known) gone i id (omega arith) lacks)));
    }

pub returns-in_err-leave_one : goal.returns-in_err-leave_one
returns-in_err-leave_one g c = record {
  ends = λ known lacks.
      let p = err_from_is_err_and c.from_residual.result c.from_residual.ensures.1 in
      rw (p.1, p.2) (gives_up_behind _ _ _ _ _ _ (c.loop-index.invariant.does known lacks)
      (c.in_err-leave_one.ensures.ends known
      (subst (Lacks known) (sym c.index-gone-index.is)
      (All-get_or (Lacks known) c.args.gone.now c.loop-index.index c.index-gone-index.result
      (omega arith) lacks))));
}

pub returns : goal.returns
returns g c = record {
  ends = λ known lacks.
      does_all (LeavesOne c.args.folders) is_taking c.args.gone.now c.loop-index.index _ _
      (omega arith) (c.loop-index.invariant.does known lacks);
}
