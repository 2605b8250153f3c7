use Rattle.std.proofs.Common.{ap, ◌∙◌, arith}
use Rattle.aes_ccm.specs.Aes.{state_after}
use Rattle.aes_ccm.specs.Lists.{xored}
use Rattle.aes_ccm.proofs.Enciphered.{state_step, rounds_end}
use Rattle.aes_ccm.proofs.rounds.after_rounds.Goals as goal

pub loop-round-init : goal.loop-round-init
unfolding state_after
loop-round-init c = c.plus-state.ensures ∙ ap (xored c.args.block.now) c.round_key.ensures

pub loop-round-preserved : goal.loop-round-preserved
loop-round-preserved c =
    state_step c.args.words.now c.args.block.now c.loop-round.state c.round_key-in-loop-round.result c.whole_round-next.result c.loop-round.round
    (omega arith) c.loop-round.invariant c.round_key-in-loop-round.ensures c.whole_round-next.ensures

pub returns : goal.returns
returns c =
    rounds_end c.args.words.now c.args.block.now c.loop-round.state c.round_key-2.result c.last_round.result c.loop-round.round c.args.rounds
    (omega (arith, c.loop-round.auto.round-end c.requires.some)) c.loop-round.invariant c.round_key-2.ensures c.last_round.ensures
