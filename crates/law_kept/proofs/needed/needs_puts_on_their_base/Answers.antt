use Rattle.law_kept.proofs.Told.{stale_put}
use Rattle.law_kept.proofs.needed.needs_puts_on_their_base.Goals as goal

pub returns : goal.returns
returns c = stale_put
