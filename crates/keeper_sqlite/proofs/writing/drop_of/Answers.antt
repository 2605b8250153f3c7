use Rattle.std.proofs.Common.{rules}
use Rattle.keeper_sqlite.proofs.Speaking.{both_said, first_alone}
use Rattle.keeper_sqlite.proofs.writing.drop_of.Goals as goal

pub returns-in_err-run_on_id-2 : goal.returns-in_err-run_on_id-2
returns-in_err-run_on_id-2 g c =
    let same = first_alone _ _ _ _ c.requires c.in_ok-run_on_id.ensures
    c.in_err-run_on_id-2.ensures in
    search (rules, same)

pub returns : goal.returns
returns g c = both_said _ _ _ _ _ c.in_ok-run_on_id.ensures c.in_ok-run_on_id-2.ensures
