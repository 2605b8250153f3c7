use Rattle.std.proofs.Common.{◌∙◌, drop}
use Rattle.std.proofs.lemmas.List.{take_rest}
use Rattle.dav_wire.proofs.RequestHeadLemmas.{begins, reads_same}
use Rattle.dav_wire.proofs.request_reader.read_after_head.Goals as goal

pub returns : goal.returns
returns c =
    let front = c.args.part.now in
    let len = c.args.head.now.len in
    let h = c.requires.whole.0 in
    let at = c.requires.whole.1 in (
      h,
      drop len c.args.bytes.now,
      begins c.args.bytes.now front h len c.requires.part at.reads at.len
          c.requires.within.section.len_fits,
      reads_same _ h.method _ h.target _ _ _ _ _ _ c.in_ok-read.read (c.of-method.ensures
          ∙ at.method) (c.of-target.ensures ∙ at.path) at.fields (take_rest c.args.bytes.now len)
          at.len c.in_ok-read.ensures,
    )
