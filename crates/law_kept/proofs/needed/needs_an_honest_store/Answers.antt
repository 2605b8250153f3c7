use Rattle.law_kept.proofs.Told.{lied}
use Rattle.law_kept.proofs.needed.needs_an_honest_store.Goals as goal

pub returns : goal.returns
returns c = lied
