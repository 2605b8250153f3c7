use Rattle.std.proofs.Common.{rules}
use Rattle.keeper_sqlite.proofs.Speaking.{open_begun, begun_same, said_same, transaction}
use Rattle.keeper_sqlite.proofs.together.attempt.Goals as goal

pub say-requires-clause-begun : goal.say-requires-clause-begun
say-requires-clause-begun g c = open_begun _ _ c.in_ok-begin.ensures.ok

pub returns-in_err-say-clause-err : goal.returns-in_err-say-clause-err
returns-in_err-say-clause-err g c =
    let same = begun_same _ _ _ c.in_ok-begin.ensures.ok c.in_err-say.ensures in
    search (rules, same)

pub returns-in_err-commit-clause-err : goal.returns-in_err-commit-clause-err
returns-in_err-commit-clause-err g c =
    let same = said_same _ _ _ _ _ c.in_ok-begin.ensures.ok c.in_ok-say.ensures
    c.in_err-commit.ensures.err in
    search (rules, same)

pub returns-clause-ok : goal.returns-clause-ok
returns-clause-ok g c =
    transaction _ _ _ _ _ c.in_ok-begin.ensures.ok c.in_ok-say.ensures c.in_ok-commit.ensures.ok
