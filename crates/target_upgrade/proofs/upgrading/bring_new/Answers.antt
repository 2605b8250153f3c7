use Rattle.std.proofs.lemmas.Result.{err_from_is_err_and}
use Rattle.target_upgrade.proofs.Made.{come_then, goes_then, stops_then}
use Rattle.target_upgrade.proofs.upgrading.bring_new.Goals as goal

pub returns-in_err-make_first-clause-gives : goal.returns-in_err-make_first-clause-gives
returns-in_err-make_first-clause-gives g c =
    let p = err_from_is_err_and c.from_residual.result c.from_residual.ensures.1 in
    rw (p.1, p.2) c.in_err-make_first.ensures.gives

pub returns-in_err-bring_first-clause-gives : goal.returns-in_err-bring_first-clause-gives
returns-in_err-bring_first-clause-gives g c =
    let p = err_from_is_err_and c.from_residual-in_err-bring_first.result
    c.from_residual-in_err-bring_first.ensures.1 in
    rw (p.1, p.2) (stops_then _ _ _ _ _ _ _ c.in_ok-make_first.ensures.gives
    c.make_first.ensures.goes c.in_err-bring_first.ensures.gives)

pub returns-in_err-bring_first-clause-goes : goal.returns-in_err-bring_first-clause-goes
returns-in_err-bring_first-clause-goes g c = (goes_then _ _ _ _ _ _ c.in_ok-make_first.ensures.gives
    c.make_first.ensures.goes c.bring_first.ensures.goes)

pub returns-clause-gives : goal.returns-clause-gives
returns-clause-gives g c = (come_then _ _ _ _ _ _ _ c.in_ok-make_first.ensures.gives
    c.in_ok-bring_first.ensures.gives)

pub returns-clause-goes : goal.returns-clause-goes
returns-clause-goes g c = (goes_then _ _ _ _ _ _ c.in_ok-make_first.ensures.gives
    c.make_first.ensures.goes c.bring_first.ensures.goes)

pub bring_first-requires-clause-at : goal.bring_first-requires-clause-at
bring_first-requires-clause-at g c = c.in_ok-make_first.ensures.gives.stands
