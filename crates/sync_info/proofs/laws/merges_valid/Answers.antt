use Rattle.sync_info.proofs.MergeLemmas.{IsInfo-merged}
use Rattle.sync_info.proofs.laws.merges_valid.Goals as goal

pub returns : goal.returns
returns c = IsInfo-merged
