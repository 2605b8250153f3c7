use Rattle.jed_format.proofs.SealedTexts.{text_in-sealed}
use Rattle.jed_format.proofs.laws.opens_a_sealed_text.Goals as goal

pub returns : goal.returns
returns c = λ password text jed is. text_in-sealed password text jed is.escaped is.utf8 is.valid is.sealed
