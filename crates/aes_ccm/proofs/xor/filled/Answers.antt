use Rattle.std.proofs.Common.{◌∙◌}
use Rattle.aes_ccm.proofs.Xored.{xored-replicate}
use Rattle.aes_ccm.proofs.xor.filled.Goals as goal

pub returns : goal.returns
returns g c = c.xor_from.ensures ∙ xored-replicate g.row.N c.args.bytes.now c.requires
