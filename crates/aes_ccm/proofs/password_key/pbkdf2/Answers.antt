use Rattle.std.proofs.Common.{◌≡◌, arith}
use Rattle.aes_ccm.specs.Hmac.{turns}
use Rattle.aes_ccm.proofs.Turns.{first_turn, next_turn, next_sum}
use Rattle.aes_ccm.proofs.password_key.pbkdf2.Goals as goal

pub loop-n-init : goal.loop-n-init
unfolding turns
loop-n-init c =
    let first = first_turn c.key_block-block.result c.args.password.now c.args.salt.now c.hmac_by-turn.result c.key_block-block.ensures
    (c.hmac_by-turn.ensures _ _ (c.longer.ensures _ c.hasher_of-inner.ensures) c.hasher_of-outer.ensures) in
    record { turn = first; sum = first }

pub loop-n-preserved : goal.loop-n-preserved
loop-n-preserved c =
    let next = next_turn c.key_block-block.result c.args.password.now c.args.salt.now c.loop-n.turn c.hmac_by-next.result c.loop-n._n (omega arith) c.key_block-block.ensures c.loop-n.invariant.turn
    (c.hmac_by-next.ensures _ _ c.hasher_of-inner.ensures c.hasher_of-outer.ensures) in
    record {
      turn = next;
      sum = next_sum c.args.password.now c.args.salt.now c.loop-n.sum c.hmac_by-next.result c.xor_from.new.text c.loop-n._n (omega arith) c.loop-n.invariant.sum next c.xor_from.ensures;
    }

pub returns : goal.returns
returns c =
    let done : c.loop-n._n ≡ c.args.iter = omega (arith, c.loop-n.auto._n-end c.requires) in
    rw done at c.loop-n.invariant.sum
