use Rattle.std.proofs.lemmas.Result.{err_from_is_err_and}
use Rattle.target_upgrade.proofs.Made.{come_then, goes_then, stops_then}
use Rattle.target_upgrade.proofs.getting.take_keys.Goals as goal

pub returns-in_err-ids-clause-gives : goal.returns-in_err-ids-clause-gives
returns-in_err-ids-clause-gives g c =
    let p = err_from_is_err_and c.from_residual.result c.from_residual.ensures.1 in
    rw (p.1, p.2) c.in_err-ids.ensures.err

pub returns-in_err-get_keys-clause-gives : goal.returns-in_err-get_keys-clause-gives
returns-in_err-get_keys-clause-gives g c =
    let p = err_from_is_err_and c.from_residual-in_err-get_keys.result
    c.from_residual-in_err-get_keys.ensures.1 in
    rw (p.1, p.2) (stops_then _ _ _ _ _ _ _ c.in_ok-ids.ensures.ok c.list_items.ensures.goes
    c.in_err-get_keys.ensures.gives)

pub returns-in_err-get_keys-clause-goes : goal.returns-in_err-get_keys-clause-goes
returns-in_err-get_keys-clause-goes g c = (goes_then _ _ _ _ _ _ c.in_ok-ids.ensures.ok
    c.list_items.ensures.goes c.get_keys.ensures.goes)

pub returns-in_err-put_info-clause-gives : goal.returns-in_err-put_info-clause-gives
returns-in_err-put_info-clause-gives g c =
    let p = err_from_is_err_and c.from_residual-in_err-put_info.result
    c.from_residual-in_err-put_info.ensures.1 in
    rw (p.1, p.2) (stops_then _ _ _ _ _ _ _ (come_then _ _ _ _ _ _ _ c.in_ok-ids.ensures.ok
    c.in_ok-get_keys.ensures.gives) (goes_then _ _ _ _ _ _ c.in_ok-ids.ensures.ok
    c.list_items.ensures.goes c.get_keys.ensures.goes) c.in_err-put_info.ensures.gives)

pub returns-in_err-put_info-clause-goes : goal.returns-in_err-put_info-clause-goes
returns-in_err-put_info-clause-goes g c = (goes_then _ _ _ _ _ _
    (come_then _ _ _ _ _ _ _ c.in_ok-ids.ensures.ok c.in_ok-get_keys.ensures.gives)
    (goes_then _ _ _ _ _ _ c.in_ok-ids.ensures.ok c.list_items.ensures.goes c.get_keys.ensures.goes)
    c.put_info.ensures.goes)

pub returns-clause-gives : goal.returns-clause-gives
returns-clause-gives g c = (come_then _ _ _ _ _ _ _ (come_then _ _ _ _ _ _ _ c.in_ok-ids.ensures.ok
    c.in_ok-get_keys.ensures.gives) c.in_ok-put_info.ensures.gives)

pub returns-clause-goes : goal.returns-clause-goes
returns-clause-goes g c = (goes_then _ _ _ _ _ _ (come_then _ _ _ _ _ _ _ c.in_ok-ids.ensures.ok
    c.in_ok-get_keys.ensures.gives) (goes_then _ _ _ _ _ _ c.in_ok-ids.ensures.ok
    c.list_items.ensures.goes c.get_keys.ensures.goes) c.put_info.ensures.goes)
