use Rattle.law_kept.proofs.Told.{uncopied_conflict}
use Rattle.law_kept.proofs.needed.needs_a_copy.Goals as goal

pub returns : goal.returns
returns c = uncopied_conflict
