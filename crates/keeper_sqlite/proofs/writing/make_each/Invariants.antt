use Rattle.std.proofs.Common.{◌≡◌, drop}
use Rattle.keeper_sqlite.specs.Speaking.{StaysBegun}
use Rattle.keeper_sqlite.specs.Statements.{saying_all}
use Rattle.keeper_sqlite.proofs.writing.make_each.Given as goal

abbrev pub invariant-loop-write : goal.invariant-loop-write
invariant-loop-write g l = record {
  said : saying_all (drop l.write-index l.writes) (g.D.Database.state l.database).spoken
      ≡ saying_all l.writes (g.D.Database.state l.fn.database).spoken;
  within : StaysBegun (g.D.Database.state l.fn.database).spoken
      (g.D.Database.state l.database).spoken;
}
