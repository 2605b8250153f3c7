use Rattle.std.proofs.Common.{◌≡◌, ap, ◌∙◌, rules}
use Rattle.aes_ccm.specs.Aes.{aes}
use Rattle.aes_ccm.specs.Lists.{xored}
use Rattle.aes_ccm.specs.Ccm.{counter}
use Rattle.aes_ccm.proofs.Tag.{tag_filled}
use Rattle.aes_ccm.proofs.ccm.tag_behind.Goals as goal

pub returns : goal.returns
returns c =
    let block : c.encrypt.result ≡ aes c.args.key.now (counter c.args.nonce.now 0) = c.encrypt.ensures ∙ ap (aes c.args.key.now) c.counter.ensures in
    let whole : c.bytes-whole.result ≡ xored c.args.chain.now (aes c.args.key.now (counter c.args.nonce.now 0)) =
    c.bytes-whole.ensures ∙ c.plus.ensures ∙ ap (xored c.args.chain.now) block in
    tag_filled c.bytes-whole.result _ c.filled.result c.args.tag_len (search rules) c.requires.tag whole c.filled.ensures
