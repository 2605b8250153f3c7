use Rattle.std.proofs.lemmas.Result.{err_from_is_err_and}
use Rattle.jop_outside.proofs.WritingLaws.{at_part, at_next, at_cut}
use Rattle.jop_outside.proofs.writing.write_parts.Goals as goal

pub returns-in_err-write_whole : goal.returns-in_err-write_whole
returns-in_err-write_whole g c =
    let at = at_part (λ p. p.now) _ _ _ _ _ c.loop-part-test.true c.loop-part.invariant in
    let failed = err_from_is_err_and c.from_residual.result c.from_residual.ensures.1 in
    rw (failed.1) (at_cut _ _ _ _ _ _ at c.in_err-write_whole.ensures)

pub loop-part-preserved : goal.loop-part-preserved
loop-part-preserved g c =
    let at = at_part (λ p. p.now) _ _ _ _ _ c.loop-part-test.true c.loop-part.invariant in
    at_next _ _ _ _ _ _ at c.in_ok-write_whole.ensures
