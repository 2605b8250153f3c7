use Rattle.law_kept.proofs.Told.{take_over_a_change}
use Rattle.law_kept.proofs.needed.needs_changes_to_be_left.Goals as goal

pub returns : goal.returns
returns c = take_over_a_change
