use Rattle.jed_format.specs.Sealed.{blob_pieces}
use Rattle.jed_sealing.proofs.Rows.{AreSealedSo}
use Rattle.jed_sealing.specs.Sealing.{first_parts}
use Rattle.jed_sealing.proofs.blobs.seal_parts.Given as goal

abbrev pub invariant-loop-n : goal.invariant-loop-n
invariant-loop-n g l =
    AreSealedSo l.digits (blob_pieces (first_parts l.blob l.n)) (g.N.Entropy.state l.fn.entropy) l.chunks
    (g.N.Entropy.state l.entropy)
