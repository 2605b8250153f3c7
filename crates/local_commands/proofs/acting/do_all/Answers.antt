use Rattle.std.proofs.Common.{◌∙◌}
use Rattle.std.proofs.lemmas.Result.{err_from_is_err_and}
use Rattle.local_commands.proofs.InARow.{allowed_first, first_of, still_done, still_next, still_refused}
use Rattle.local_commands.proofs.acting.do_all.Goals as goal

pub loop-alloc-preserved : goal.loop-alloc-preserved
loop-alloc-preserved g c =
    let split = first_of c.loop-alloc.left c.remove.new.self c.remove.result c.is_empty.result
    c.is_empty.ensures c.loop-alloc-test.true c.remove.ensures.item c.remove.ensures.rest in
    record {
      allowed = (allowed_first _ _ _ split c.loop-alloc.invariant.allowed).1;
      still = still_next c.args.acts _ _ _ _ _ _ split c.loop-alloc.invariant.still
          c.in_ok-do_act.ensures.acts;
      stays = c.in_ok-do_act.ensures.stays ∙ c.loop-alloc.invariant.stays;
    }

pub returns-in_err-do_act-clause-acts : goal.returns-in_err-do_act-clause-acts
returns-in_err-do_act-clause-acts g c =
    let split = first_of c.loop-alloc.left c.remove.new.self c.remove.result c.is_empty.result
    c.is_empty.ensures c.loop-alloc-test.true c.remove.ensures.item c.remove.ensures.rest in
    let p = err_from_is_err_and c.from_residual.result c.from_residual.ensures.1 in
    rw p.1
    (rw p.2
    (still_refused c.args.acts _ _ _ _ _ _ c.in_err-do_act.field-0.0 split
    c.loop-alloc.invariant.still c.in_err-do_act.ensures.acts))

pub returns-clause-acts : goal.returns-clause-acts
returns-clause-acts g c =
    still_done c.args.acts _ _ _ (c.is_empty.ensures.0 c.loop-alloc-test.false)
    c.loop-alloc.invariant.still
