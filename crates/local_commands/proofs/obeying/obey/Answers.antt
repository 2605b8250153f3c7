use Rattle.local_commands.proofs.Sparing.{unread_spared}
use Rattle.local_commands.proofs.obeying.obey.Goals as goal

pub returns-in_err-tables-clause-spares : goal.returns-in_err-tables-clause-spares
returns-in_err-tables-clause-spares g c =
    unread_spared _ _ _ c.in_err-tables.field-0.0 c.in_err-tables.ensures.reads
