use Rattle.std.proofs.Common.{subst}
use Rattle.base64.specs.GeneralPurpose.{IsBytes}
use Rattle.jed_format.specs.Sealed.{blob_pieces}
use Rattle.jed_sealing.proofs.Parts.{blob_opens, drawn_over, short_parts}
use Rattle.jed_sealing.proofs.Whole.{pieces_brief}
use Rattle.jed_sealing.specs.Sealing.{parts_of_blob}
use Rattle.jed_sealing.proofs.blobs.seal_bytes.Goals as goal

pub returns-clause-opens : goal.returns-clause-opens
returns-clause-opens g c =
    let before = (g.N.Entropy.state c.args.entropy.now).left in
    let after = (g.N.Entropy.state c.seal_parts.new.entropy).left in
    let sealed = drawn_over c.args.digits.now c.as_slice-2.result.now c.args.blob.now before after c.in_ok-chunks.chunks
    c.as_slice-2.ensures c.in_ok-chunks.ensures.sealed in
    blob_opens c.args.key.now c.args.digits.now c.args.blob.now c.in_ok-chunks.chunks sealed.bytes
    (subst IsBytes c.as_slice.ensures c.prove_bytes.ensures) sealed.long sealed.is

pub returns-clause-brief : goal.returns-clause-brief
returns-clause-brief g c =
    let sealed = c.in_ok-chunks.ensures.sealed in
    let blob = c.as_slice-2.result.now in
    pieces_brief c.args.key.now c.args.digits.now (blob_pieces (parts_of_blob blob)) c.in_ok-chunks.chunks sealed.bytes
    (short_parts blob) sealed.long sealed.is
