use Rattle.law_kept.proofs.Told.{save_within}
use Rattle.law_kept.proofs.needed.needs_saves_outside_sessions.Goals as goal

pub returns : goal.returns
returns c = save_within
