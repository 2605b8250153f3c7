use Rattle.aes_ccm.proofs.Bytes.{product-inverse}
use Rattle.aes_ccm.proofs.laws.inverts_every_byte.Goals as goal

pub returns : goal.returns
returns c = product-inverse
