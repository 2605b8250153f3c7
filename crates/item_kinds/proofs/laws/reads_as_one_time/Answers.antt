use Rattle.item_kinds.proofs.OneTime.{one_time}
use Rattle.item_kinds.proofs.laws.reads_as_one_time.Goals as goal

pub returns : goal.returns
returns c = one_time
