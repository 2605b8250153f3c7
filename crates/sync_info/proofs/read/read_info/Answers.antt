use Rattle.std.proofs.Common.{◌≡◌, Some, rules}
use Rattle.sync_info.specs.Read.{info_in}
use Rattle.sync_info.proofs.Valid.{IsInfo-info_in}
use Rattle.sync_info.proofs.read.read_info.Goals as goal

pub returns-in-Some-clause-valid : goal.returns-in-Some-clause-valid
returns-in-Some-clause-valid c =
    let held : info_in c.args.text.now ≡ Some c.in-Some.info = search rules in
    IsInfo-info_in c.args.text.now c.in-Some.info held
