use Rattle.std.proofs.Common.{ap, subst, length, List, ℕ, arith}
use Rattle.std.proofs.lemmas.List.{length-take}
use Rattle.httparse.specs.Grammar.{HasNoResponse}
use Rattle.httparse.specs.Spans.{IsResponseWithin, ResponseOverflows}
use Rattle.dav_wire.proofs.ResponseHeadLemmas.{on_partial, on_complete}
use Rattle.dav_wire.proofs.ResponseMissing.{none_misses_nothing, crowded_misses_nothing}
use Rattle.dav_wire.proofs.missing.response_missing.Goals as goal

pub missing_of_response-requires-clause-fits : goal.missing_of_response-requires-clause-fits
missing_of_response-requires-clause-fits c =
    let within = on_complete c.in-Ok-Complete.field-0 c.in-Ok-Complete.head
    (IsResponseWithin c.head_part-part.result.now c.parse_response.new.headers)
    c.in-Ok-Complete.ensures.within c.in-Ok-Complete.field-0-is in
    omega (
      arith,
      within.section.len_fits,
      ap (λ (t : List ℕ). length t) c.head_part-part.ensures,
      length-take 16384 c.args.bytes.now,
    )

pub returns-in-Ok-Partial-clause-none : goal.returns-in-Ok-Partial-clause-none
returns-in-Ok-Partial-clause-none c =
    none_misses_nothing c.args.call.now c.args.bytes.now
    (subst (λ (t : List ℕ). HasNoResponse t) c.head_part-part.ensures
    (on_partial c.in-Ok-Partial.field-0 _ c.in-Ok-Partial.ensures.partial
    c.in-Ok-Partial.field-0-is))

pub returns-in-Err-clause-none : goal.returns-in-Err-clause-none
returns-in-Err-clause-none c =
    crowded_misses_nothing c.args.call.now c.args.bytes.now
    (subst (λ (t : List ℕ). ResponseOverflows 128 t) c.head_part-part.ensures
    c.in-Err.ensures.no_room)
