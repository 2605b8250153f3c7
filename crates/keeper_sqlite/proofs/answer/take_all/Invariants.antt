use Rattle.std.specs.Prelude.{All}
use Rattle.keeper_sqlite.specs.Answers.{IsTakenUpTo}
use Rattle.keeper_sqlite.proofs.answer.take_all.Given as goal

abbrev pub invariant-each : goal.invariant-each
invariant-each g l = record {
  taken : IsTakenUpTo g.T.FromColumns.stands (g.A.Answer.left l.fn.answer) l.values
      (g.A.Answer.left l.answer);
  sound : All g.T.FromColumns.is_sound l.values;
}
