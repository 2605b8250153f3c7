use Rattle.keeper_sqlite.proofs.Found.{sound_more}
use Rattle.keeper_sqlite.proofs.Standing.{one_more}
use Rattle.keeper_sqlite.proofs.answer.take_all.Goals as goal

pub each-preserved : goal.each-preserved
each-preserved g c = record {
  taken = one_more g.T.FromColumns.stands (g.A.Answer.left c.args.answer.now)
      (g.A.Answer.left c.each.answer) (g.A.Answer.left c.take_next.new.self)
      c.each.values c.push.new.self c.in-Some.value c.each.invariant.taken
      (rw c.in-Some.is at c.in_ok-value.ensures.gives) c.in_ok-push-in-Some.ensures.ok;
  sound = sound_more g.T.FromColumns.is_sound c.each.values c.push.new.self c.in-Some.value
      c.in_ok-push-in-Some.ensures.ok c.each.invariant.sound
      (rw c.in-Some.is at c.in_ok-value.ensures.sound);
}
