use Rattle.std.proofs.Common.{ap, sym, [], Some}
use Rattle.std.proofs.lemmas.Result.{err_from_is_err_and}
use Rattle.jop_base.specs.declared.path.Path.TheVariants.{Info as InfoFile}
use Rattle.jop_target.specs.declared.call.Call.TheVariants.{Put}
use Rattle.target_upgrade.specs.Steps.{Gets}
use Rattle.target_upgrade.proofs.Infos.{text_of}
use Rattle.lease.proofs.NoFailures.{none_failed_nowhere}
use Rattle.target_upgrade.proofs.Made.{goes_nowhere, may_call}
use Rattle.target_upgrade.proofs.Standing.{last_done}
use Rattle.target_upgrade.proofs.getting.put_info.Goals as goal

pub ask-requires : goal.ask-requires
ask-requires g c = may_call _ _ (Gets [] c.args.info.now) _ c.requires.at
    (ap (λ t. Some (Put InfoFile t)) (sym c.in_ok-text.ensures.text))
    (text_of _ _ c.in_ok-text.ensures.reads_back)

pub returns-in_err-text-clause-gives : goal.returns-in_err-text-clause-gives
returns-in_err-text-clause-gives g c =
    let p = err_from_is_err_and c.from_residual.result c.from_residual.ensures.1 in
    rw (p.1, p.2) (none_failed_nowhere _)

pub returns-in_err-text-clause-goes : goal.returns-in_err-text-clause-goes
returns-in_err-text-clause-goes g c = goes_nowhere _ _ _ c.requires.at

pub returns-in_err-ask-clause-gives : goal.returns-in_err-ask-clause-gives
returns-in_err-ask-clause-gives g c =
    let p = err_from_is_err_and c.from_residual-in_err-ask.result
    c.from_residual-in_err-ask.ensures.1 in
    rw (p.1, p.2) c.in_err-ask.ensures.err

pub returns-clause-gives : goal.returns-clause-gives
returns-clause-gives g c = last_done _ _ _ _ c.args.info.now _ c.in_ok-text.ensures.text
    c.requires.at c.in_ok-ask.ensures.ok
