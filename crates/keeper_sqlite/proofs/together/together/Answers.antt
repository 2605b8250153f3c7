use Rattle.keeper_sqlite.proofs.Speaking.{refused}
use Rattle.keeper_sqlite.proofs.together.together.Goals as goal

pub returns-in-Err : goal.returns-in-Err
returns-in-Err g c = refused _ _ _ c.in-Err.ensures.err c.roll_back.ensures
