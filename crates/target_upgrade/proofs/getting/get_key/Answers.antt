use Rattle.std.proofs.Common.{refl}
use Rattle.std.proofs.lemmas.Result.{err_from_is_err_and}
use Rattle.target_upgrade.proofs.Made.{may_call, none_failed_made}
use Rattle.target_upgrade.proofs.Standing.{at_item, get_done}
use Rattle.target_upgrade.proofs.getting.get_key.Goals as goal

pub ask-requires : goal.ask-requires
ask-requires g c = may_call _ _ _ _ (at_item _ _ _ _ _ _ c.requires.within c.index-ids-index.is
    c.requires.at) refl refl

pub returns-in_err-ask-clause-gives : goal.returns-in_err-ask-clause-gives
returns-in_err-ask-clause-gives g c =
    let p = err_from_is_err_and c.from_residual.result c.from_residual.ensures.1 in
    rw (p.1, p.2) c.in_err-ask.ensures.err

pub returns-in_err-key-clause-gives : goal.returns-in_err-key-clause-gives
returns-in_err-key-clause-gives g c =
    let p = err_from_is_err_and c.from_residual-in_err-key.result
    c.from_residual-in_err-key.ensures.1 in
    rw (p.1, p.2) (none_failed_made _ _ _ _ _ _ c.in_ok-ask.ensures.ok c.ask.ensures.goes)

pub returns-in_err-add_key-clause-gives : goal.returns-in_err-add_key-clause-gives
returns-in_err-add_key-clause-gives g c =
    let p = err_from_is_err_and c.from_residual-in_err-add_key.result
    c.from_residual-in_err-add_key.ensures.1 in
    rw (p.1, p.2) (none_failed_made _ _ _ _ _ _ c.in_ok-ask.ensures.ok c.ask.ensures.goes)

pub returns-clause-gives : goal.returns-clause-gives
returns-clause-gives g c =
    let at = at_item _ _ _ _ _ _ c.requires.within c.index-ids-index.is c.requires.at in
    get_done _ _ _ _ _ _ c.args.info.now _ _ _ at c.in_ok-ask.ensures.ok c.last.ensures
    c.in_ok-key.ensures.key c.in_ok-add_key.ensures.ok
