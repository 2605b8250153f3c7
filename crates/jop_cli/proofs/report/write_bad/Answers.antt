use Rattle.std.proofs.Common.{subst, List, ℕ}
use Rattle.std.proofs.lemmas.Result.{err_from_is_err_and}
use Rattle.jop_outside.proofs.WritingLaws.{at_part, at_next, at_cut}
use Rattle.jop_outside.specs.Writing.{WasCut, WasWritten}
use Rattle.jop_cli.specs.Commands.Sync.{bad_line}
use Rattle.jop_cli.proofs.report.write_bad.Goals as goal

pub returns-in_err-write_pieces : goal.returns-in_err-write_pieces
returns-in_err-write_pieces g c =
    let at = at_part bad_line _ _ _ _ c.id-item.result c.loop-id-test.true c.loop-id.invariant in
    let failed = err_from_is_err_and c.from_residual.result c.from_residual.ensures.1 in
    rw (failed.1) (at_cut _ _ _ _ _ _ at
    (subst (λ (id : List ℕ). WasCut (g.O.Sink.state c.loop-id.out) (bad_line id)
    (g.O.Sink.state c.write_pieces.new.sink)) c.id-item.is c.in_err-write_pieces.ensures))

pub loop-id-preserved : goal.loop-id-preserved
loop-id-preserved g c =
    let at = at_part bad_line _ _ _ _ c.id-item.result c.loop-id-test.true c.loop-id.invariant in
    at_next _ _ _ _ _ _ at
    (subst (λ (id : List ℕ). WasWritten (g.O.Sink.state c.loop-id.out) (bad_line id)
    (g.O.Sink.state c.write_pieces.new.sink)) c.id-item.is c.in_ok-write_pieces.ensures)
