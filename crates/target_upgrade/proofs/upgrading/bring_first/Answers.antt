use Rattle.std.proofs.lemmas.Result.{err_from_is_err_and}
use Rattle.target_upgrade.proofs.Made.{come_then, goes_then, stops_then}
use Rattle.target_upgrade.proofs.upgrading.bring_first.Goals as goal

pub returns-in_err-make_second-clause-gives : goal.returns-in_err-make_second-clause-gives
returns-in_err-make_second-clause-gives g c =
    let p = err_from_is_err_and c.from_residual.result c.from_residual.ensures.1 in
    rw (p.1, p.2) c.in_err-make_second.ensures.gives

pub returns-in_err-take_keys-clause-gives : goal.returns-in_err-take_keys-clause-gives
returns-in_err-take_keys-clause-gives g c =
    let p = err_from_is_err_and c.from_residual-in_err-take_keys.result
    c.from_residual-in_err-take_keys.ensures.1 in
    rw (p.1, p.2) (stops_then _ _ _ _ _ _ _ c.in_ok-make_second.ensures.gives
    c.make_second.ensures.goes c.in_err-take_keys.ensures.gives)

pub returns-in_err-take_keys-clause-goes : goal.returns-in_err-take_keys-clause-goes
returns-in_err-take_keys-clause-goes g c = (goes_then _ _ _ _ _ _ c.in_ok-make_second.ensures.gives
    c.make_second.ensures.goes c.take_keys.ensures.goes)

pub returns-clause-gives : goal.returns-clause-gives
returns-clause-gives g c = (come_then _ _ _ _ _ _ _ c.in_ok-make_second.ensures.gives
    c.in_ok-take_keys.ensures.gives)

pub returns-clause-goes : goal.returns-clause-goes
returns-clause-goes g c = (goes_then _ _ _ _ _ _ c.in_ok-make_second.ensures.gives
    c.make_second.ensures.goes c.take_keys.ensures.goes)

pub take_keys-requires-clause-at : goal.take_keys-requires-clause-at
take_keys-requires-clause-at g c = c.in_ok-make_second.ensures.gives.stands
