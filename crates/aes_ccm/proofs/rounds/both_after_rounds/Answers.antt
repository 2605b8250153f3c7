use Rattle.std.proofs.Common.{ap, ◌∙◌, arith}
use Rattle.aes_ccm.specs.Aes.{state_after}
use Rattle.aes_ccm.specs.Lists.{xored}
use Rattle.aes_ccm.proofs.Enciphered.{state_step, rounds_end}
use Rattle.aes_ccm.proofs.rounds.both_after_rounds.Goals as goal

pub loop-round-init : goal.loop-round-init
unfolding state_after
loop-round-init c = record {
  left = c.plus-left.ensures ∙ ap (xored c.args.one.now) c.round_key-first.ensures;
  right = c.plus-right.ensures ∙ ap (xored c.args.other.now) c.round_key-first.ensures;
}

pub loop-round-preserved : goal.loop-round-preserved
loop-round-preserved c = record {
  left = state_step c.args.words.now c.args.one.now c.loop-round.left c.round_key-key.result c.whole_round-next.result c.loop-round.round
      (omega arith) c.loop-round.invariant.left c.round_key-key.ensures c.whole_round-next.ensures;
  right = state_step c.args.words.now c.args.other.now c.loop-round.right c.round_key-key.result c.whole_round-beside.result c.loop-round.round
      (omega arith) c.loop-round.invariant.right c.round_key-key.ensures c.whole_round-beside.ensures;
}

pub returns-clause-one : goal.returns-clause-one
returns-clause-one c =
    rounds_end c.args.words.now c.args.one.now c.loop-round.left c.round_key-last.result c.last_round.result c.loop-round.round c.args.rounds
    (omega (arith, c.loop-round.auto.round-end c.requires.some)) c.loop-round.invariant.left c.round_key-last.ensures c.last_round.ensures

pub returns-clause-other : goal.returns-clause-other
returns-clause-other c =
    rounds_end c.args.words.now c.args.other.now c.loop-round.right c.round_key-last.result c.last_round-2.result c.loop-round.round c.args.rounds
    (omega (arith, c.loop-round.auto.round-end c.requires.some)) c.loop-round.invariant.right c.round_key-last.ensures c.last_round-2.ensures
