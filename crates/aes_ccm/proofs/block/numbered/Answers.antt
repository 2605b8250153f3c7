use Rattle.aes_ccm.proofs.Params.{put_over}
use Rattle.aes_ccm.proofs.block.numbered.Goals as goal

pub returns : goal.returns
returns c = rw (c.to_be_bytes-block.ensures, c.from.ensures) (put_over _ c.args.flags _ c.args.nonce.now _ c.copy_from_slice.ensures.after)
