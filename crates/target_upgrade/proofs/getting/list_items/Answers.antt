use Rattle.std.proofs.Common.{sym, ap, subst, List, ℕ, Some}
use Rattle.std.proofs.lemmas.Result.{err_from_is_err_and}
use Rattle.target_upgrade.specs.Answers.{HasCome}
use Rattle.target_upgrade.specs.Steps.{At, Gets, at_version}
use Rattle.lease.proofs.NoFailures.{none_failed_nowhere}
use Rattle.target_upgrade.proofs.Made.{goes_nowhere, may_call, none_failed_made}
use Rattle.target_upgrade.proofs.Standing.{list_done, listed_as}
use Rattle.target_upgrade.proofs.getting.list_items.Goals as goal

pub ask-requires : goal.ask-requires
ask-requires g c = may_call _ _ (At _ c.args.info.now) _ c.requires.at
    (ap Some (sym c.in_ok-call.ensures.call)) c.in_ok-call.ensures.text

pub returns-in_err-call-clause-err : goal.returns-in_err-call-clause-err
returns-in_err-call-clause-err g c =
    let p = err_from_is_err_and c.from_residual.result c.from_residual.ensures.1 in
    rw (p.1, p.2) (none_failed_nowhere _)

pub returns-in_err-call-clause-goes : goal.returns-in_err-call-clause-goes
returns-in_err-call-clause-goes g c = goes_nowhere _ _ _ c.requires.at

pub returns-in_err-ask-clause-err : goal.returns-in_err-ask-clause-err
returns-in_err-ask-clause-err g c =
    let p = err_from_is_err_and c.from_residual-in_err-ask.result
    c.from_residual-in_err-ask.ensures.1 in
    rw (p.1, p.2) c.in_err-ask.ensures.err

pub unreachable-requires : goal.unreachable-requires
unreachable-requires g c =
    let listed = list_done _ _ _ _ c.args.info.now _ c.in_ok-call.ensures.call c.requires.at
    c.in_ok-ask.ensures.ok in
    c.in_default.not-Listed listed.0 (c.last.ensures _ _ listed.1.ends)

pub returns-clause-ok : goal.returns-clause-ok
returns-clause-ok g c =
    let listed = list_done _ _ _ _ c.args.info.now _ c.in_ok-call.ensures.call c.requires.at
    c.in_ok-ask.ensures.ok in
    let come = listed_as _ _ c.args.info.now _ _ c.in-Listed.listing listed c.last.ensures
    c.in-Listed.is in
    subst (λ (ids : List (List ℕ)). HasCome c.args.lease.now c.ask.new.lease
    (Gets ids (at_version 3 c.args.info.now)) (g.L.Line.state c.ask.new.line))
    (sym c.in_ok-items_in-in-Listed.ensures) come

pub returns-in_err-items_in-in-Listed-clause-err : goal.returns-in_err-items_in-in-Listed-clause-err
returns-in_err-items_in-in-Listed-clause-err g c =
    let p = err_from_is_err_and c.from_residual-in_err-items_in-in-Listed.result
    c.from_residual-in_err-items_in-in-Listed.ensures.1 in
    rw (p.1, p.2) (none_failed_made _ _ _ _ _ _ c.in_ok-ask.ensures.ok c.ask.ensures.goes)
