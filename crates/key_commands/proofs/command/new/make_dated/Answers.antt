use Rattle.std.proofs.lemmas.Result.{err_from_is_err_and}
use Rattle.key_commands.proofs.Steps.{unmade}
use Rattle.key_commands.proofs.command.new.make_dated.Goals as goal

pub returns-in_err-now-clause-makes : goal.returns-in_err-now-clause-makes
returns-in_err-now-clause-makes g c =
    let p = err_from_is_err_and c.from_residual.result c.from_residual.ensures.1 in
    rw (p.1, p.2) (record { failed = c.in_err-now.field-0.0; tells = c.in_err-now.ensures.tells })

pub returns-in_err-key-clause-makes : goal.returns-in_err-key-clause-makes
returns-in_err-key-clause-makes g c =
    let p = err_from_is_err_and c.from_residual-in_err-key.result c.from_residual-in_err-key.ensures.1 in
    rw (p.1, p.2) (unmade _ _ _ _ _ _ c.in_ok-now.ensures.tells c.in_err-key.ensures.makes)

pub returns-clause-makes : goal.returns-clause-makes
returns-clause-makes g c = record {
  mid = g.V.Outside.now c.time.new.self;
  tells = c.in_ok-now.ensures.tells;
  makes = c.in_ok-key.ensures.makes;
}
