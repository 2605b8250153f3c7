use Rattle.std.proofs.Common.{◌≡◌, length, take, refl, ap, sym, ◌∙◌, arith}
use Rattle.aes_ccm.specs.Aes.{aes}
use Rattle.aes_ccm.specs.Ccm.{blocks_in, chained, stream, ciphered}
use Rattle.aes_ccm.proofs.Xored.{xored-nil}
use Rattle.aes_ccm.proofs.Chained.{cipher_step, chained_step, drop-ciphered, next_ahead}
use Rattle.aes_ccm.proofs.sealing.seal_text.Goals as goal

pub loop-n-init : goal.loop-n-init
unfolding stream chained
loop-n-init c = record {
  text = sym (xored-nil c.args.text.now);
  chain = refl;
  ahead = c.encrypt-ahead.ensures ∙ ap (aes c.args.key.now) c.counter.ensures;
}

pub loop-n-preserved : goal.loop-n-preserved
loop-n-preserved c =
    let held = c.loop-n.invariant in
    record {
      text = c.add_to.ensures
          ∙ cipher_step c.args.key.now c.args.nonce.now c.args.text.now c.loop-n.text c.loop-n.ahead c.loop-n.n held.text (omega arith) held.ahead;
      chain = chained_step c.args.key.now c.args.start c.args.text.now c.loop-n.chain _ _ c.loop-n.n held.chain
          (ap (take 16) (drop-ciphered c.args.key.now c.args.nonce.now c.args.text.now c.loop-n.text c.loop-n.n held.text))
          (c.encrypt_both-next.ensures.one ∙ ap (aes c.args.key.now) c.plus_at-sum.ensures);
      ahead = next_ahead c.args.key.now c.args.nonce.now _ _ c.loop-n.n c.counter-in-loop-n.ensures c.encrypt_both-next.ensures.other;
    }

pub returns-clause-text : goal.returns-clause-text
unfolding ciphered
returns-clause-text c =
    let done : c.loop-n.n ≡ blocks_in (length c.args.text.now) = omega arith in
    rw done at c.loop-n.invariant.text

pub returns-clause-chain : goal.returns-clause-chain
returns-clause-chain c =
    let done : c.loop-n.n ≡ blocks_in (length c.args.text.now) = omega arith in
    rw done at c.loop-n.invariant.chain
