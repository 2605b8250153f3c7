use Rattle.std.proofs.Common.{refl, inr, sym, ◌∙◌}
use Rattle.std.proofs.lemmas.Bool.{false≢true}
use Rattle.dav_wire.proofs.RequestHeadLemmas.{refused_full, refused_elsewhere, refused_in_target}
use Rattle.dav_wire.proofs.request_reader.refused.Goals as goal
use Rattle.dav_wire.proofs.request_reader.refused.Goals.{else-bytes-lt-HEAD_LIMIT-via-then-bytes-lt-HEAD_LIMIT+else-ends_in_target, else-bytes-lt-HEAD_LIMIT-via-else-bytes-lt-HEAD_LIMIT}

pub returns-then-ends_in_target : goal.returns-then-ends_in_target
returns-then-ends_in_target c =
    inr (refused_in_target c.args.bytes.now c.requires c.if-bytes-lt-HEAD_LIMIT.true
    (c.ends_in_target.ensures.0 c.if-ends_in_target.true))

pub returns-else-bytes-lt-HEAD_LIMIT : goal.returns-else-bytes-lt-HEAD_LIMIT
returns-else-bytes-lt-HEAD_LIMIT c = elim c.else-bytes-lt-HEAD_LIMIT.branch [
  | else-bytes-lt-HEAD_LIMIT-via-then-bytes-lt-HEAD_LIMIT+else-ends_in_target w ↦
      inr (
        refused_elsewhere c.args.bytes.now c.requires w.if-bytes-lt-HEAD_LIMIT.true (λ inside.
            false≢true (sym w.if-ends_in_target.false ∙ w.ends_in_target.ensures.1 inside)),
        refl,
      )
  | else-bytes-lt-HEAD_LIMIT-via-else-bytes-lt-HEAD_LIMIT w ↦
      inr (refused_full c.args.bytes.now c.requires w.if-bytes-lt-HEAD_LIMIT.false, refl)
]
