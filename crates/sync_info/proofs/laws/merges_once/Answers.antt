use Rattle.sync_info.proofs.MergeLemmas.{merged-left, merged-right, merged-itself}
use Rattle.sync_info.proofs.laws.merges_once.Goals as goal

pub returns-clause-local : goal.returns-clause-local
returns-clause-local c = merged-left

pub returns-clause-remote : goal.returns-clause-remote
returns-clause-remote c = merged-right

pub returns-clause-itself : goal.returns-clause-itself
returns-clause-itself c = merged-itself
