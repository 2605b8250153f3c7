use Rattle.jed_text.proofs.Spelled.{text_of-units_of}
use Rattle.jed_text.proofs.laws.spells_its_units.Goals as goal

pub returns : goal.returns
returns c = text_of-units_of
