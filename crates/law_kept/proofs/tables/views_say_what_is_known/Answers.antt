use Rattle.law_kept.proofs.Keeping.{known_in_end}
use Rattle.law_kept.proofs.tables.views_say_what_is_known.Goals as goal

pub returns : goal.returns
returns c = known_in_end
