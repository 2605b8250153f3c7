use Rattle.law_exclusion.proofs.Upgrades.{joined, redone}
use Rattle.law_exclusion.proofs.redoing.redone.Goals as goal

pub returns-clause-redone : goal.returns-clause-redone
returns-clause-redone c = redone

pub returns-clause-joined : goal.returns-clause-joined
returns-clause-joined c = joined
