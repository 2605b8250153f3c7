use Rattle.std.proofs.Common.{ap, ◌∙◌}
use Rattle.aes_ccm.specs.Aes.{aes}
use Rattle.aes_ccm.proofs.aes.Aes.encrypt_block.Goals as goal

pub returns : goal.returns
returns c = c.bytes.ensures ∙ c.encrypt.ensures ∙ ap (aes c.args.self.now) c.of.ensures
