use Rattle.std.proofs.Common.{sym, arith}
use Rattle.local_changes.proofs.Visits.{not_moved, moved, found_last, few_steps}
use Rattle.local_changes.proofs.free.free_id.Goals as goal

pub loop-steps-init : goal.loop-steps-init
loop-steps-init c = not_moved c.args.tables.now c.args.drawn c.prove_valid.ensures

pub loop-steps-preserved : goal.loop-steps-preserved
loop-steps-preserved c =
    let few = few_steps c.loop-steps._steps c.len.result c.len-2.result (omega arith) (omega arith)
    (omega arith) in
    moved c.args.tables.now c.args.drawn c.loop-steps._steps c.loop-steps.id c.after-id.result
    c.prove_valid.ensures few c.loop-steps.invariant (sym c.if-not-is_taken.ensures)
    c.after-id.ensures.digits c.after-id.ensures.next

pub returns : goal.returns
returns c =
    let few = few_steps c.loop-steps._steps c.len.result c.len-2.result (omega arith) (omega arith)
    (omega arith) in
    found_last c.args.tables.now c.args.drawn c.loop-steps._steps c.loop-steps.id
    c.prove_valid.ensures few c.loop-steps.invariant (omega (arith, c.len.ensures, c.len-2.ensures))
