use Rattle.std.proofs.Common.{rules}
use Rattle.keeper_sqlite.proofs.Speaking.{both_said, first_alone}
use Rattle.keeper_sqlite.proofs.new_tables.FirstTablesJob.say.Goals as goal

pub returns-in_err-make_keys : goal.returns-in_err-make_keys
returns-in_err-make_keys g c =
    let same = first_alone _ _ _ _ c.requires.begun c.in_ok-make_tables.ensures
    c.in_err-make_keys.ensures in
    search (rules, same)

pub returns : goal.returns
returns g c = both_said _ _ _ _ _ c.in_ok-make_tables.ensures c.in_ok-make_keys.ensures
