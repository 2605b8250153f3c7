use Rattle.std.proofs.Common.{◌≡◌, drop}
use Rattle.keeper_sqlite.specs.Speaking.{StaysBegun}
use Rattle.keeper_sqlite.specs.Statements.{saying_bare}
use Rattle.keeper_sqlite.proofs.new_tables.run_each.Given as goal

abbrev pub invariant-loop-statement : goal.invariant-loop-statement
invariant-loop-statement g l = record {
  said : saying_bare (drop l.statement-index l.statements) (g.D.Database.state l.database).spoken
      ≡ saying_bare l.statements (g.D.Database.state l.fn.database).spoken;
  within : StaysBegun (g.D.Database.state l.fn.database).spoken
      (g.D.Database.state l.database).spoken;
}
