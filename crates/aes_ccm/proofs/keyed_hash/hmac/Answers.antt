use Rattle.std.proofs.Common.{List, ℕ, ◌++◌, replicate, ap, ◌∙◌}
use Rattle.sha2.specs.Sha256.{sha256}
use Rattle.aes_ccm.specs.Lists.{xored}
use Rattle.aes_ccm.specs.Hmac.{hmac_of}
use Rattle.aes_ccm.proofs.keyed_hash.hmac.Goals as goal

pub returns : goal.returns
unfolding hmac_of
returns c =
    c.hmac_by.ensures _ _ c.hasher_of.ensures c.hasher_of-2.ensures
    ∙ ap (λ (b : List ℕ). sha256 (xored b (replicate 64 0x5c) ++ sha256 (xored b (replicate 64 0x36) ++ c.args.text.now))) c.key_block-block.ensures
