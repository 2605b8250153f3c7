use Rattle.law_kept.proofs.Told.{uncopied_loss}
use Rattle.law_kept.proofs.needed.needs_a_copy_of_what_goes.Goals as goal

pub returns : goal.returns
returns c = uncopied_loss
