use Rattle.law_kept.proofs.TaleTold.{told_fair, told_copied}
use Rattle.law_kept.proofs.laws.clients_can_cross_on_a_target.Goals as goal

pub returns : goal.returns
returns c = record { fair = told_fair; copied = told_copied }
