use Rattle.law_kept.proofs.Told.{old_check}
use Rattle.law_kept.proofs.needed.needs_a_check_of_the_session.Goals as goal

pub returns : goal.returns
returns c = old_check
