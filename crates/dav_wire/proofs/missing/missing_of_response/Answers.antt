use Rattle.std.proofs.Common.{◌-◌, ◌∙◌, sym, drop, length, ap, ℕ, List}
use Rattle.std.proofs.lemmas.List.{take_rest}
use Rattle.dav_wire.specs.ResponseFrames.{frame_of}
use Rattle.dav_wire.proofs.ResponseHeadLemmas.{begins}
use Rattle.dav_wire.proofs.ResponseMissing.{other_misses_nothing}
use Rattle.dav_wire.proofs.missing.missing_of_response.Goals as goal

pub returns-in-Body-clause-some : goal.returns-in-Body-clause-some
returns-in-Body-clause-some c =
    let h = c.requires.whole.0 in
    let at = c.requires.whole.1 in
    let len = c.args.head.now.len in
    let bytes = c.args.bytes.now in (
      h,
      drop len bytes,
      begins bytes c.args.part.now h len c.requires.part at.reads at.len
          c.requires.within.section.len_fits,
      c.in-Body.field-0,
      c.in-Body.field-1,
      c.in-Body.count,
      (λ i. frame_of c.args.call.now (sym at.code i) (sym at.fields i))
          ∙ sym c.frame_of.ensures ∙ c.in-Body.is,
      c.saturating_sub.ensures
          ∙ ap (λ (rest : List ℕ). c.in-Body.count - length rest) (take_rest bytes len),
    )

pub returns-in-Unreadable-clause-none : goal.returns-in-Unreadable-clause-none
returns-in-Unreadable-clause-none c =
    let h = c.requires.whole.0 in
    let at = c.requires.whole.1 in
    let len = c.args.head.now.len in
    let bytes = c.args.bytes.now in
    let begun = begins bytes c.args.part.now h len c.requires.part at.reads at.len
    c.requires.within.section.len_fits in
    let framed = (λ i. frame_of c.args.call.now (sym at.code i) (sym at.fields i))
    ∙ sym c.frame_of.ensures ∙ c.in-Unreadable.is in
    other_misses_nothing c.args.call.now bytes h (drop len bytes) begun
    (λ now outcome n e. cc (framed, e))

pub returns-in-TooLong-clause-none : goal.returns-in-TooLong-clause-none
returns-in-TooLong-clause-none c =
    let h = c.requires.whole.0 in
    let at = c.requires.whole.1 in
    let len = c.args.head.now.len in
    let bytes = c.args.bytes.now in
    let begun = begins bytes c.args.part.now h len c.requires.part at.reads at.len
    c.requires.within.section.len_fits in
    let framed = (λ i. frame_of c.args.call.now (sym at.code i) (sym at.fields i))
    ∙ sym c.frame_of.ensures ∙ c.in-TooLong.is in
    other_misses_nothing c.args.call.now bytes h (drop len bytes) begun
    (λ now outcome n e. cc (framed, e))
