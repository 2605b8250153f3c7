use Rattle.std.proofs.Common.{◌-◌, ◌*◌, List, take, drop, refl, sym, subst, arith}
use Rattle.jed_format.specs.Sealed.{blob_pieces}
use Rattle.jed_format.specs.declared.sjcl_chunk.SjclChunk.{SjclChunk}
use Rattle.jed_sealing.proofs.Parts.{no_parts, parts_more}
use Rattle.jed_sealing.proofs.Rows.{AreSealedSo}
use Rattle.jed_sealing.specs.Sealing.{first_parts}
use Rattle.jed_sealing.proofs.blobs.seal_parts.Goals as goal

pub loop-n-init : goal.loop-n-init
loop-n-init g c =
    let now = g.N.Entropy.state c.args.entropy.now in
    let blob = c.args.blob.now in
    let P : List SjclChunk → Type 0 =
    λ (chunks : List SjclChunk). AreSealedSo c.args.digits.now (blob_pieces (first_parts blob 0)) now chunks now in
    subst P (sym c.new-chunks.ensures) (no_parts c.args.digits.now blob now)

pub loop-n-preserved : goal.loop-n-preserved
loop-n-preserved g c =
    let n = c.loop-n.n in
    let blob = c.args.blob.now in
    let part = take (c.min-end.result - 3750 * n) (drop (3750 * n) blob) in
    parts_more c.args.digits.now blob part n c.min-end.result (g.N.Entropy.state c.args.entropy.now)
    (g.N.Entropy.state c.loop-n.entropy) (g.N.Entropy.state c.add_part.new.entropy) c.loop-n.chunks c.add_part.new.chunks
    c.min-end.ensures (omega (arith, c.loop-n-test.true)) refl c.loop-n.invariant c.in_ok-add_part.ensures.added
    c.in_ok-add_part.ensures.spends
