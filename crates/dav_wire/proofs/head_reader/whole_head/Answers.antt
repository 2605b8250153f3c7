use Rattle.std.specs.Prelude.{◌==◌, ◌&&◌, not}
use Rattle.std.proofs.Common.{◌∙◌, drop}
use Rattle.dav_wire.specs.Requests.{closes}
use Rattle.dav_wire.specs.ResponseFrames.{frame_of}
use Rattle.dav_wire.proofs.ResponseHeadLemmas.{begins}
use Rattle.dav_wire.proofs.head_reader.whole_head.Goals as goal

pub returns : goal.returns
returns c =
    let len = c.args.head.now.len in
    let h = c.requires.whole.0 in
    let at = c.requires.whole.1 in
    let rest = drop len c.args.bytes.now in
    let begun = begins c.args.bytes.now c.args.part.now h len c.requires.part at.reads at.len
    c.requires.within.section.len_fits in (
      rest,
      record {
        head = h;
        begins = begun;
        tells = c.frame_of-frame.ensures
            ∙ (λ i. frame_of c.args.call.now (at.code i) (at.fields i));
        long = at.len;
      },
      (
        h,
        rest,
        begun,
        c.stays_open-lasts.ensures ∙ (λ i. (at.version i == 1) && not (closes (at.fields i))),
      ),
    )
