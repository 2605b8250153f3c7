use Rattle.std.proofs.Common.{sym, ◌∙◌, ap, subst, length, List, ℕ, refl, inr, Err, arith}
use Rattle.std.proofs.lemmas.Bool.{false≢true}
use Rattle.std.proofs.lemmas.List.{take_all, length-take}
use Rattle.httparse.specs.Grammar.{HasNoRequest, NeverHasRequest, MayBecomeRequest}
use Rattle.httparse.specs.Spans.{RequestExceeds, IsRequestWithin}
use Rattle.dav_wire.proofs.RequestHeadLemmas.{lost_full, on_partial, on_complete}
use Rattle.dav_wire.proofs.request_reader.read_in.Goals as goal

pub returns-else-bytes-lt-HEAD_LIMIT : goal.returns-else-bytes-lt-HEAD_LIMIT
returns-else-bytes-lt-HEAD_LIMIT c =
    inr (
      lost_full c.args.bytes.now (subst (λ (t : List ℕ). HasNoRequest t) c.head_part-part.ensures
          (on_partial c.in-Ok-Partial.field-0 _ c.in-Ok-Partial.ensures.partial
          c.in-Ok-Partial.field-0-is)) c.if-bytes-lt-HEAD_LIMIT.false,
      refl,
    )

pub returns-then-is_crowded : goal.returns-then-is_crowded
returns-then-is_crowded c = subst (λ (t : List ℕ). RequestExceeds (length c.args.room.now) t)
    c.head_part-part.ensures (c.in-Err.ensures.too_many
    (ap Err (c.is_crowded.ensures.0 c.if-is_crowded.true)))

pub refused-requires : goal.refused-requires
refused-requires c = subst (λ (t : List ℕ). NeverHasRequest t) c.head_part-part.ensures
    (c.in-Err.ensures.invalid (λ e. false≢true (sym c.if-is_crowded.false
    ∙ c.is_crowded.ensures.1 e)))

pub read_after_head-requires-clause-fits : goal.read_after_head-requires-clause-fits
read_after_head-requires-clause-fits c =
    omega (
      arith,
      (on_complete c.in-Ok-Complete.field-0 c.in-Ok-Complete.head
          (IsRequestWithin c.head_part-part.result.now c.parse_request.new.headers)
          c.in-Ok-Complete.ensures.within c.in-Ok-Complete.field-0-is).section.len_fits,
      ap
          (λ (t : List ℕ). length t) c.head_part-part.ensures,
      length-take 16384 c.args.bytes.now,
    )

pub returns-then-bytes-lt-HEAD_LIMIT : goal.returns-then-bytes-lt-HEAD_LIMIT
returns-then-bytes-lt-HEAD_LIMIT c =
    let whole = c.head_part-part.ensures ∙ take_all 16384 c.args.bytes.now (omega arith) in
    inr (record {
      none = subst (λ (t : List ℕ). HasNoRequest t) whole
          (on_partial c.in-Ok-Partial.field-0 _ c.in-Ok-Partial.ensures.partial
          c.in-Ok-Partial.field-0-is);
      may = subst (λ (t : List ℕ). MayBecomeRequest t) whole
          (on_partial c.in-Ok-Partial.field-0 _ c.in-Ok-Partial.ensures.unfinished
          c.in-Ok-Partial.field-0-is);
      short = c.if-bytes-lt-HEAD_LIMIT.true;
    })
