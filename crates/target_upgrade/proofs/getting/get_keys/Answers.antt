use Rattle.std.proofs.Common.{arith}
use Rattle.std.proofs.lemmas.Result.{err_from_is_err_and}
use Rattle.target_upgrade.proofs.Made.{come_then, goes_nowhere, goes_then, stops_then}
use Rattle.target_upgrade.proofs.Standing.{at_end, come_nowhere}
use Rattle.target_upgrade.proofs.getting.get_keys.Goals as goal

pub loop-index-init : goal.loop-index-init
loop-index-init g c = record {
  come = come_nowhere _ _ _ c.requires.at;
  valid = c.requires.valid;
  goes = goes_nowhere _ _ _ c.requires.at;
  keeps = g.met.L.Line.keeps_same _;
}

pub get_key-requires-clause-at : goal.get_key-requires-clause-at
get_key-requires-clause-at g c = c.loop-index.invariant.come.stands

pub loop-index-preserved : goal.loop-index-preserved
loop-index-preserved g c =
    let i = c.loop-index.invariant in
    let done = c.in_ok-get_key.ensures.gives in
    record {
      come = come_then _ _ _ _ _ _ _ i.come done;
      valid = c.in_ok-get_key.ensures.valid;
      goes = goes_then _ _ _ _ _ _ i.come i.goes c.get_key.ensures.goes;
      keeps = g.met.L.Line.keeps_on _ _ _ i.keeps c.get_key.ensures.keeps;
    }

pub returns-in_err-get_key-clause-gives : goal.returns-in_err-get_key-clause-gives
returns-in_err-get_key-clause-gives g c =
    let i = c.loop-index.invariant in
    let p = err_from_is_err_and c.from_residual.result c.from_residual.ensures.1 in
    rw (p.1, p.2) (stops_then _ _ _ _ _ _ _ i.come i.goes c.in_err-get_key.ensures.gives)

pub returns-in_err-get_key-clause-goes : goal.returns-in_err-get_key-clause-goes
returns-in_err-get_key-clause-goes g c =
    let i = c.loop-index.invariant in
    goes_then _ _ _ _ _ _ i.come i.goes c.get_key.ensures.goes

pub returns-clause-gives : goal.returns-clause-gives
returns-clause-gives g c =
    let come = c.loop-index.invariant.come in
    record {
      same = come.same;
      stands = at_end _ _ c.args.ids.now c.loop-index.index _ (omega arith)
          come.stands;
    }
