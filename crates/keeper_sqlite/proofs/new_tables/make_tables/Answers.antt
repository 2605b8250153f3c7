use Rattle.keeper_sqlite.proofs.Speaking.{bare_are_said}
use Rattle.keeper_sqlite.specs.Statements.{table_statements}
use Rattle.keeper_sqlite.proofs.new_tables.make_tables.Goals as goal

pub returns : goal.returns
returns g c = bare_are_said table_statements _ _ c.in_ok-run_each.ensures.ok
