use Rattle.std.proofs.Common.{refl, arith, length}
use Rattle.aes_ccm.proofs.Words.{is_key_len-whole, schedule_init, schedule_step, schedule_key, schedule_words}
use Rattle.aes_ccm.proofs.schedule.schedule.Goals as goal

pub loop-more-init : goal.loop-more-init
loop-more-init c = schedule_init c.args.key.now c.key_first-words.result _ refl (is_key_len-whole (length c.args.key.now) c.requires) c.key_first-words.ensures

pub loop-more-preserved : goal.loop-more-preserved
loop-more-preserved c =
    let len = is_key_len-whole (length c.args.key.now) c.requires in
    schedule_step c.args.key.now c.loop-more.words c.put_word.new.words c.next_word-word.result _ c.loop-more.more refl
    (omega (arith, len.whole, len.low)) c.loop-more.invariant c.next_word-word.ensures c.put_word.ensures

pub returns-clause-key : goal.returns-clause-key
returns-clause-key c = schedule_key c.args.key.now c.loop-more.words _ c.loop-more.more refl (is_key_len-whole (length c.args.key.now) c.requires) c.loop-more.invariant

pub returns-clause-words : goal.returns-clause-words
returns-clause-words c = schedule_words c.args.key.now c.loop-more.words _ c.loop-more.more refl
    (omega arith) c.loop-more.invariant
