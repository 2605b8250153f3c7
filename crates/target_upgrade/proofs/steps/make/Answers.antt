use Rattle.std.proofs.Common.{sym, ap, Some}
use Rattle.std.proofs.lemmas.Result.{err_from_is_err_and}
use Rattle.target_upgrade.specs.Steps.{At}
use Rattle.lease.proofs.NoFailures.{none_failed_nowhere}
use Rattle.target_upgrade.proofs.Made.{goes_nowhere, may_call}
use Rattle.target_upgrade.proofs.Standing.{step_done}
use Rattle.target_upgrade.proofs.steps.make.Goals as goal

pub ask-requires : goal.ask-requires
ask-requires g c = may_call _ _ (At c.args.step c.args.info.now) _ c.requires.at
    (ap Some (sym c.in_ok-call.ensures.call)) c.in_ok-call.ensures.text

pub returns-in_err-call-clause-gives : goal.returns-in_err-call-clause-gives
returns-in_err-call-clause-gives g c =
    let p = err_from_is_err_and c.from_residual.result c.from_residual.ensures.1 in
    rw (p.1, p.2) (none_failed_nowhere _)

pub returns-in_err-call-clause-goes : goal.returns-in_err-call-clause-goes
returns-in_err-call-clause-goes g c = goes_nowhere _ _ _ c.requires.at

pub returns-in_err-ask-clause-gives : goal.returns-in_err-ask-clause-gives
returns-in_err-ask-clause-gives g c =
    let p = err_from_is_err_and c.from_residual-in_err-ask.result
    c.from_residual-in_err-ask.ensures.1 in
    rw (p.1, p.2) c.in_err-ask.ensures.err

pub returns-clause-gives : goal.returns-clause-gives
returns-clause-gives g c = step_done _ _ _ _ c.args.step c.args.info.now _ c.requires.at
    c.in_ok-call.ensures.call c.requires.early c.in_ok-ask.ensures.ok
