use Rattle.std.proofs.Common.{drop}
use Rattle.jop_outside.proofs.WritingLaws.{IsAt}
use Rattle.jop_status.specs.Pieces.{pieces_text}
use Rattle.jop_status.proofs.piece.write_pieces.Given as goal

abbrev pub invariant-loop-piece : goal.invariant-loop-piece
invariant-loop-piece g l =
    IsAt (g.S.Sink.state l.fn.sink) (pieces_text l.fn.pieces)
    (g.S.Sink.state l.sink) (pieces_text (drop l.piece-index l.fn.pieces))
