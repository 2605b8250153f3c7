use Rattle.jed_format.proofs.SealedTexts.{blob_in-sealed}
use Rattle.jed_format.proofs.laws.opens_a_sealed_blob.Goals as goal

pub returns : goal.returns
returns c = λ password parts jed is. blob_in-sealed password parts jed is.escaped is.bytes is.valid is.sealed
