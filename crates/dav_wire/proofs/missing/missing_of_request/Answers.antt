use Rattle.std.proofs.Common.{◌-◌, ◌∙◌, sym, drop, length, ap, ℕ, List}
use Rattle.std.proofs.lemmas.List.{take_rest}
use Rattle.dav_wire.specs.Requests.{framing_of}
use Rattle.dav_wire.proofs.RequestHeadLemmas.{begins}
use Rattle.dav_wire.proofs.RequestMissing.{refused_misses_nothing}
use Rattle.dav_wire.proofs.missing.missing_of_request.Goals as goal

pub returns-in-Refused-clause-none : goal.returns-in-Refused-clause-none
returns-in-Refused-clause-none c =
    let h = c.requires.whole.0 in
    let at = c.requires.whole.1 in
    let len = c.args.head.now.len in
    let bytes = c.args.bytes.now in
    let begun = begins bytes c.args.part.now h len c.requires.part at.reads at.len
    c.requires.within.section.len_fits in
    let method = c.of-method.ensures ∙ at.method in
    let target = c.of-target.ensures ∙ at.path in
    refused_misses_nothing bytes h (drop len bytes) _ begun
    ((λ i. framing_of (sym method i) (sym target i) (sym at.fields i))
    ∙ sym c.framing_of.ensures ∙ c.in-Refused.is)

pub returns-in-Body-clause-some : goal.returns-in-Body-clause-some
returns-in-Body-clause-some c =
    let h = c.requires.whole.0 in
    let at = c.requires.whole.1 in
    let len = c.args.head.now.len in
    let bytes = c.args.bytes.now in
    let method = c.of-method.ensures ∙ at.method in
    let target = c.of-target.ensures ∙ at.path in (
      h,
      drop len bytes,
      begins bytes c.args.part.now h len c.requires.part at.reads at.len
          c.requires.within.section.len_fits,
      c.in-Body.count,
      (λ i. framing_of (sym method i) (sym target i) (sym at.fields i))
          ∙ sym c.framing_of.ensures ∙ c.in-Body.is,
      c.saturating_sub.ensures
          ∙ ap (λ (rest : List ℕ). c.in-Body.count - length rest) (take_rest bytes len),
    )
