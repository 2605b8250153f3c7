use Rattle.std.proofs.Common.{take}
use Rattle.jed_sealing.proofs.Rows.{AreSealedSo}
use Rattle.jed_sealing.proofs.pieces.seal_pieces.Given as goal

abbrev pub invariant-loop-piece : goal.invariant-loop-piece
invariant-loop-piece g l =
    AreSealedSo l.digits (take l.piece-index l.pieces) (g.N.Entropy.state l.fn.entropy) l.chunks
    (g.N.Entropy.state l.entropy)
