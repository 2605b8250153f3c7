use Rattle.std.proofs.lemmas.Result.{err_from_is_err_and}
use Rattle.key_commands.proofs.Steps.{read_then, unread}
use Rattle.key_commands.proofs.obeying.obey.Goals as goal

pub returns-in_err-tables-clause-runs : goal.returns-in_err-tables-clause-runs
returns-in_err-tables-clause-runs g c =
    let p = err_from_is_err_and c.from_residual.result c.from_residual.ensures.1 in
    rw (p.1, p.2) (unread _ _ _ _ c.in_err-tables.ensures.reads)

pub returns-clause-runs : goal.returns-clause-runs
returns-clause-runs g c =
    read_then _ _ _ _ _ _ c.in_ok-tables.ensures.reads c.obey_on.ensures.runs
