use Rattle.std.proofs.Common.{rules}
use Rattle.aes_ccm.proofs.Chained.{headed_built}
use Rattle.aes_ccm.proofs.chain.headed.Goals as goal

pub returns : goal.returns
returns c =
    headed_built c.args.key.now c.args.nonce.now c.args.adata.now c.of.result c.first_block-first.result c.chain.result c.chain_header.result c.args.text_len c.args.tag_len
    c.of.ensures (search rules) c.first_block-first.ensures c.chain.ensures c.chain_header.ensures
