use Rattle.jed_text.proofs.Spelled.{pieces_spell}
use Rattle.jed_text.proofs.laws.joins_what_is_cut.Goals as goal

pub returns : goal.returns
returns c = pieces_spell
