use Rattle.std.proofs.Common.{◌*◌, ap, length}
use Rattle.jed_format.proofs.Lengths.{IsJed-IsBrief}
use Rattle.jed_format.specs.Sealed.{blob_pieces}
use Rattle.jed_format.specs.Write.{jed_text}
use Rattle.jed_format.specs.declared.jed.Jed.{Jed}
use Rattle.jed_sealing.proofs.Drawn.{drawn_through}
use Rattle.jed_sealing.specs.Sealing.{parts_of_blob, sealed_blob}
use Rattle.master_keys.proofs.blobs.blob_text.Goals as goal

pub write_jed-requires : goal.write_jed-requires
write_jed-requires g c = IsJed-IsBrief c.in_ok-jed.jed c.in_ok-jed.ensures.brief

pub returns-clause-text : goal.returns-clause-text
returns-clause-text g c =
    let blob = c.args.blob.now in
    drawn_through (sealed_blob c.args.key.now c.args.digits.now blob) jed_text
    (24 * length (blob_pieces (parts_of_blob blob))) _ c.in_ok-jed.jed c.in_ok-text.text _ c.in_ok-jed.ensures.blob
    c.in_ok-text.ensures.text

pub returns-clause-opens : goal.returns-clause-opens
returns-clause-opens g c = record {
  jed = c.in_ok-jed.jed;
  reads = c.in_ok-text.ensures.reads_back;
  names = ap (λ (jed : Jed). jed.key) c.in_ok-jed.ensures.blob.is;
  opens = c.in_ok-jed.ensures.opens;
}
