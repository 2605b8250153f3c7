use Rattle.std.proofs.Common.{[], List, sym, subst, arith}
use Rattle.jed_format.specs.declared.sjcl_chunk.SjclChunk.{SjclChunk}
use Rattle.jed_sealing.proofs.Rows.{AreSealedSo, none_sealed, sealed_more}
use Rattle.jed_sealing.proofs.pieces.seal_pieces.Goals as goal

pub loop-piece-init : goal.loop-piece-init
loop-piece-init g c =
    let now = g.N.Entropy.state c.args.entropy.now in
    let P : List SjclChunk → Type 0 = λ (chunks : List SjclChunk). AreSealedSo c.args.digits.now [] now chunks now in
    subst P (sym c.new-chunks.ensures) (none_sealed c.args.digits.now now)

pub loop-piece-preserved : goal.loop-piece-preserved
loop-piece-preserved g c =
    sealed_more c.args.digits.now c.args.pieces.now c.loop-piece.piece-index c.piece-item.result
    (g.N.Entropy.state c.args.entropy.now) (g.N.Entropy.state c.loop-piece.entropy)
    (g.N.Entropy.state c.add_sealed.new.entropy) c.loop-piece.chunks c.add_sealed.new.chunks (omega arith)
    c.piece-item.is c.loop-piece.invariant c.in_ok-add_sealed.ensures.added c.in_ok-add_sealed.ensures.spends
