use Rattle.sync_info.proofs.Valid.{IsInfo-info_in}
use Rattle.sync_info.proofs.laws.what_is_read_is_valid.Goals as goal

pub returns : goal.returns
returns c = IsInfo-info_in
