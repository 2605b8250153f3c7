use Rattle.law_kept.proofs.Agreeing.{agrees}
use Rattle.law_kept.proofs.tables.tables_hold_what_is_told.Goals as goal

pub returns : goal.returns
returns c = agrees
