use Rattle.law_exclusion.proofs.Joins.{keeps_exclusive}
use Rattle.law_exclusion.proofs.Law.{exclusive_in}
use Rattle.law_exclusion.proofs.laws.exclusive.Goals as goal

pub returns : goal.returns
returns c = record { exclusive = exclusive_in; joined = keeps_exclusive }
