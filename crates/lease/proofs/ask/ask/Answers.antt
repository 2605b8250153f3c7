use Rattle.std.proofs.Common.{◌∙◌, sym}
use Rattle.std.proofs.lemmas.Result.{err_from_is_err_and}
use Rattle.jop_target.specs.declared.reply.Reply.TheVariants.{Failed}
use Rattle.lease.proofs.Sessions.{hears, hears_as, last_is, lease_answered, lease_unheard, unheard}
use Rattle.lease.proofs.ask.ask.Goals as goal

pub returns-in_err-call-clause-goes : goal.returns-in_err-call-clause-goes
returns-in_err-call-clause-goes g c =
    lease_unheard _ _ _ _ _ _ _ c.requires c.in_err-call.ensures.asks

pub returns-in_err-call-clause-err : goal.returns-in_err-call-clause-err
returns-in_err-call-clause-err g c =
    let p = err_from_is_err_and c.from_residual.result c.from_residual.ensures.1 in
    rw (p.1, p.2) (unheard _ _ _ _ _ _ _ c.requires.may c.in_err-call.ensures.asks)

pub returns-in-Failed-clause-goes : goal.returns-in-Failed-clause-goes
returns-in-Failed-clause-goes g c =
    lease_answered _ _ _ _ _ _ _ c.requires c.in_ok-call.ensures.asks.1

pub returns-in-Failed-clause-err : goal.returns-in-Failed-clause-err
returns-in-Failed-clause-err g c =
    let asks = c.in_ok-call.ensures.asks in
    let heard = hears _ _ _ _ _ _ _ c.requires.may asks.1 in
    let failed = sym (last_is _ _ _ _ _ _ heard c.last.ensures) ∙ c.in-Failed.is in
    (hears_as _ _ _ _ _ Failed heard failed, asks.1.fault failed)

pub returns : goal.returns
returns g c =
    let asks = c.in_ok-call.ensures.asks in
    let heard = hears _ _ _ _ _ _ _ c.requires.may asks.1 in
    record {
      goes = lease_answered _ _ _ _ _ _ _ c.requires asks.1;
      ok = (
        asks.0,
        heard,
        λ failed. c.in_default.not-Failed
            (last_is _ _ _ _ _ _ heard c.last.ensures ∙ failed),
      );
      err = tt;
      keeps = c.call.ensures.keeps;
    }
