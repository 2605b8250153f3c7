use Rattle.std.proofs.Common.{subst}
use Rattle.std.proofs.lemmas.Result.{err_from_is_err_and}
use Rattle.jop_outside.proofs.WritingLaws.{at_part, at_next, at_cut}
use Rattle.jop_outside.specs.Writing.{WasCut, WasWritten}
use Rattle.jop_status.specs.Pieces.{piece_text}
use Rattle.jop_status.specs.declared.piece.Piece.{Piece}
use Rattle.jop_status.proofs.piece.write_pieces.Goals as goal

pub returns-in_err-write_piece : goal.returns-in_err-write_piece
returns-in_err-write_piece g c =
    let at = at_part piece_text _ _ _ _ c.piece-item.result c.loop-piece-test.true c.loop-piece.invariant in
    let failed = err_from_is_err_and c.from_residual.result c.from_residual.ensures.1 in
    rw (failed.1) (at_cut _ _ _ _ _ _ at
    (subst (λ (p : Piece). WasCut (g.S.Sink.state c.loop-piece.sink) (piece_text p)
    (g.S.Sink.state c.write_piece.new.sink)) c.piece-item.is c.in_err-write_piece.ensures))

pub loop-piece-preserved : goal.loop-piece-preserved
loop-piece-preserved g c =
    let at = at_part piece_text _ _ _ _ c.piece-item.result c.loop-piece-test.true c.loop-piece.invariant in
    at_next _ _ _ _ _ _ at
    (subst (λ (p : Piece). WasWritten (g.S.Sink.state c.loop-piece.sink) (piece_text p)
    (g.S.Sink.state c.write_piece.new.sink)) c.piece-item.is c.in_ok-write_piece.ensures)
