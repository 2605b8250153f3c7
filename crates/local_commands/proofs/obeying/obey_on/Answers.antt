use Rattle.std.proofs.lemmas.Result.{err_from_is_err_and}
use Rattle.local_commands.proofs.CutShort.{ends_acts}
use Rattle.local_commands.specs.Commands.{plan_of}
use Rattle.local_commands.proofs.obeying.obey_on.Goals as goal

pub returns-in_err-do_all-clause-runs : goal.returns-in_err-do_all-clause-runs
returns-in_err-do_all-clause-runs g c =
    let now = g.O.Outside.now in
    let p = err_from_is_err_and c.from_residual-in_err-do_all.result
    c.from_residual-in_err-do_all.ensures.1 in
    rw (p.1, p.2)
    (ends_acts (plan_of c.args.command) c.args.tables.now (now c.args.outside.now)
    (now c.fetch_supply.new.outside) (now c.do_all.new.outside) c.in_ok-supply.supply
    c.in_ok-work.work c.in_err-do_all.field-0.0 c.requires.kept c.in_ok-check.ensures
    c.in_ok-supply.ensures.supplies c.in_ok-work.ensures c.in_err-do_all.ensures.acts)
