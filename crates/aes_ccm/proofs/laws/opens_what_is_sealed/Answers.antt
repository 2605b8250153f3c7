use Rattle.aes_ccm.proofs.Chained.{ciphered-ciphered}
use Rattle.aes_ccm.proofs.laws.opens_what_is_sealed.Goals as goal

pub returns : goal.returns
returns c = ciphered-ciphered
