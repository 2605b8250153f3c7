use Rattle.std.proofs.Common.{◌≤◌, length, map, ◌∙◌, arith}
use Rattle.std.proofs.lemmas.List.{length-map}
use Rattle.httparse.specs.Spans.{header_bytes}
use Rattle.dav_wire.specs.ResponseFrames.{frame_from}
use Rattle.dav_parts.proofs.FieldLemmas.{absent_only}
use Rattle.dav_wire.proofs.FrameLemmas.{frame_crowded, frame_coded, frame_plain}
use Rattle.dav_wire.proofs.frame.frame_of.Goals as goal

pub returns-then-fields-gt-FIELD_LIMIT : goal.returns-then-fields-gt-FIELD_LIMIT
returns-then-fields-gt-FIELD_LIMIT c = frame_crowded c.args.call.now c.args.status
    (map (header_bytes c.args.text.now) c.args.fields.now)
    (omega (
      arith,
      length-map c.args.fields.now (header_bytes c.args.text.now),
      c.if-fields-gt-FIELD_LIMIT.true,
    ))

pub returns-in_default : goal.returns-in_default
returns-in_default c = frame_coded c.args.call.now c.args.status
    (map (header_bytes c.args.text.now) c.args.fields.now) c.field_value.result
    c.field_value.ensures c.in_default.not-Absent

pub returns : goal.returns
returns c =
    let fields = map (header_bytes c.args.text.now) c.args.fields.now in
    let few : length fields ≤ 128 = omega (
      arith,
      length-map c.args.fields.now
          (header_bytes c.args.text.now),
    ) in
    c.frame_from.ensures ∙ (λ i. frame_from (c.now_of.ensures i) (c.outcome_of.ensures i)
    (c.body_count.ensures i))
    ∙ frame_plain c.args.call.now c.args.status fields few
    (absent_only c.field_value.result _ c.field_value.ensures c.in-Absent.is)
