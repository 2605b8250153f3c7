use Rattle.std.proofs.Common.{Ok, Err}
use Rattle.std.proofs.lemmas.Result.{err_from_is_err_and}
use Rattle.target_upgrade.proofs.Judged.{asked_once}
use Rattle.target_upgrade.proofs.Made.{goes_held, goes_made, made, may_be_called, may_work, stops_held}
use Rattle.target_upgrade.proofs.asking.ask.Goals as goal

pub call_held-requires : goal.call_held-requires
call_held-requires g c = record {
  held = c.requires.stands.held;
  work = may_work _ _ _ c.requires;
  callable = may_be_called _ _ _ _ c.requires;
}

pub returns-in_err-call_held-clause-err : goal.returns-in_err-call_held-clause-err
returns-in_err-call_held-clause-err g c =
    let p = err_from_is_err_and c.from_residual.result c.from_residual.ensures.1 in
    rw (p.1, p.2)
    (stops_held _ c.call_held.new.lease _ _ _ _ _ _ c.requires c.in_err-call_held.ensures.gives)

pub returns-in_err-call_held-clause-goes : goal.returns-in_err-call_held-clause-goes
returns-in_err-call_held-clause-goes g c =
    goes_held _ c.call_held.new.lease _ _ _ _ _ _ c.call_held.ensures.same c.requires
    c.in_err-call_held.ensures.gives

pub returns-clause-ok : goal.returns-clause-ok
returns-clause-ok g c =
    made _ _ _ _ _ _ _ c.call_held.ensures.same c.requires c.in_ok-call_held.ensures.gives

pub returns-clause-goes : goal.returns-clause-goes
returns-clause-goes g c =
    goes_made _ _ _ _ _ _ _ c.call_held.ensures.same c.requires c.in_ok-call_held.ensures.gives

pub returns-in_err-call_held-clause-once : goal.returns-in_err-call_held-clause-once
returns-in_err-call_held-clause-once g c =
    let p = err_from_is_err_and c.from_residual.result c.from_residual.ensures.1 in
    rw p.1 (asked_once _ _ _ _ _ _ _ (Err c.in_err-call_held.field-0.0) c.in_err-call_held.ensures.gives)

pub returns-clause-once : goal.returns-clause-once
returns-clause-once g c = asked_once _ _ _ _ _ _ _ (Ok _) c.in_ok-call_held.ensures.gives
