use Rattle.std.proofs.lemmas.Result.{err_from_is_err_and}
use Rattle.target_upgrade.proofs.Made.{come_then, goes_then, stops_then}
use Rattle.target_upgrade.proofs.steps.make_second.Goals as goal

pub returns-in_err-make-clause-gives : goal.returns-in_err-make-clause-gives
returns-in_err-make-clause-gives g c =
    let p = err_from_is_err_and c.from_residual.result c.from_residual.ensures.1 in
    rw (p.1, p.2) c.in_err-make.ensures.gives

pub returns-in_err-make-2-clause-gives : goal.returns-in_err-make-2-clause-gives
returns-in_err-make-2-clause-gives g c =
    let p = err_from_is_err_and c.from_residual-in_err-make-2.result
    c.from_residual-in_err-make-2.ensures.1 in
    rw (p.1, p.2) (stops_then _ _ _ _ _ _ _ c.in_ok-make.ensures.gives c.make.ensures.goes
    c.in_err-make-2.ensures.gives)

pub returns-in_err-make-2-clause-goes : goal.returns-in_err-make-2-clause-goes
returns-in_err-make-2-clause-goes g c = (goes_then _ _ _ _ _ _ c.in_ok-make.ensures.gives
    c.make.ensures.goes c.make-2.ensures.goes)

pub returns-in_err-make-3-clause-gives : goal.returns-in_err-make-3-clause-gives
returns-in_err-make-3-clause-gives g c =
    let p = err_from_is_err_and c.from_residual-in_err-make-3.result
    c.from_residual-in_err-make-3.ensures.1 in
    rw (p.1, p.2) (stops_then _ _ _ _ _ _ _ (come_then _ _ _ _ _ _ _ c.in_ok-make.ensures.gives
    c.in_ok-make-2.ensures.gives) (goes_then _ _ _ _ _ _ c.in_ok-make.ensures.gives
    c.make.ensures.goes c.make-2.ensures.goes) c.in_err-make-3.ensures.gives)

pub returns-in_err-make-3-clause-goes : goal.returns-in_err-make-3-clause-goes
returns-in_err-make-3-clause-goes g c = (goes_then _ _ _ _ _ _
    (come_then _ _ _ _ _ _ _ c.in_ok-make.ensures.gives c.in_ok-make-2.ensures.gives)
    (goes_then _ _ _ _ _ _ c.in_ok-make.ensures.gives c.make.ensures.goes c.make-2.ensures.goes)
    c.make-3.ensures.goes)

pub returns-in_err-make-4-clause-gives : goal.returns-in_err-make-4-clause-gives
returns-in_err-make-4-clause-gives g c =
    let p = err_from_is_err_and c.from_residual-in_err-make-4.result
    c.from_residual-in_err-make-4.ensures.1 in
    rw (p.1, p.2) (stops_then _ _ _ _ _ _ _ (come_then _ _ _ _ _ _ _
    (come_then _ _ _ _ _ _ _ c.in_ok-make.ensures.gives c.in_ok-make-2.ensures.gives)
    c.in_ok-make-3.ensures.gives) (goes_then _ _ _ _ _ _
    (come_then _ _ _ _ _ _ _ c.in_ok-make.ensures.gives c.in_ok-make-2.ensures.gives)
    (goes_then _ _ _ _ _ _ c.in_ok-make.ensures.gives c.make.ensures.goes c.make-2.ensures.goes)
    c.make-3.ensures.goes) c.in_err-make-4.ensures.gives)

pub returns-in_err-make-4-clause-goes : goal.returns-in_err-make-4-clause-goes
returns-in_err-make-4-clause-goes g c = (goes_then _ _ _ _ _ _
    (come_then _ _ _ _ _ _ _ (come_then _ _ _ _ _ _ _ c.in_ok-make.ensures.gives
    c.in_ok-make-2.ensures.gives) c.in_ok-make-3.ensures.gives)
    (goes_then _ _ _ _ _ _ (come_then _ _ _ _ _ _ _ c.in_ok-make.ensures.gives
    c.in_ok-make-2.ensures.gives) (goes_then _ _ _ _ _ _ c.in_ok-make.ensures.gives
    c.make.ensures.goes c.make-2.ensures.goes) c.make-3.ensures.goes) c.make-4.ensures.goes)

pub returns-clause-gives : goal.returns-clause-gives
returns-clause-gives g c = (come_then _ _ _ _ _ _ _ (come_then _ _ _ _ _ _ _
    (come_then _ _ _ _ _ _ _ c.in_ok-make.ensures.gives c.in_ok-make-2.ensures.gives)
    c.in_ok-make-3.ensures.gives) c.in_ok-make-4.ensures.gives)

pub returns-clause-goes : goal.returns-clause-goes
returns-clause-goes g c = (goes_then _ _ _ _ _ _ (come_then _ _ _ _ _ _ _
    (come_then _ _ _ _ _ _ _ c.in_ok-make.ensures.gives c.in_ok-make-2.ensures.gives)
    c.in_ok-make-3.ensures.gives) (goes_then _ _ _ _ _ _ (come_then _ _ _ _ _ _ _
    c.in_ok-make.ensures.gives c.in_ok-make-2.ensures.gives)
    (goes_then _ _ _ _ _ _ c.in_ok-make.ensures.gives c.make.ensures.goes c.make-2.ensures.goes)
    c.make-3.ensures.goes) c.make-4.ensures.goes)
