use Rattle.std.proofs.Common.{◌≡◌, length, refl, ap, ◌∙◌, arith}
use Rattle.aes_ccm.specs.Aes.{aes}
use Rattle.aes_ccm.specs.Ccm.{blocks_in, chained}
use Rattle.aes_ccm.proofs.Chained.{chained_step}
use Rattle.aes_ccm.proofs.chain.chain.Goals as goal

pub loop-n-init : goal.loop-n-init
unfolding chained
loop-n-init c = refl

pub loop-n-preserved : goal.loop-n-preserved
loop-n-preserved c =
    chained_step c.args.key.now c.args.start c.args.text.now c.loop-n.block c.encrypt-next.result _ c.loop-n.n c.loop-n.invariant
    refl (c.encrypt-next.ensures ∙ ap (aes c.args.key.now) c.plus_at.ensures)

pub returns : goal.returns
returns c =
    let done : c.loop-n.n ≡ blocks_in (length c.args.text.now) = omega arith in
    rw done at c.loop-n.invariant
