use Rattle.std.proofs.Common.{length}
use Rattle.aes_ccm.proofs.Params.{good_lengths}
use Rattle.aes_ccm.proofs.Tag.{tag_built}
use Rattle.aes_ccm.proofs.ccm.ccm_seal.Goals as goal

pub returns-clause-tag : goal.returns-clause-tag
returns-clause-tag c =
    let good = good_lengths (length c.args.nonce.now) c.args.tag_len (length c.args.adata.now) (length c.args.text.now) c.are_good.result c.are_good.ensures c.if-not-are_good.false in
    tag_built c.args.key.now c.args.nonce.now c.args.adata.now c.args.text.now c.headed-start.result c.seal_text-chain.result c.tag_behind.result c.args.tag_len
    good.nonce good.tag c.headed-start.ensures c.seal_text-chain.ensures.chain c.tag_behind.ensures
