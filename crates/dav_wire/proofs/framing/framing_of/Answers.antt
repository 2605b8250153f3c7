use Rattle.std.proofs.Common.{◌≡◌, ◌≤◌, ◌-◌, length, map, sym, ◌∙◌, cond, arith}
use Rattle.std.specs.Prelude.{◌^◌}
use Rattle.std.proofs.lemmas.Bool.{cond-true, cond-false}
use Rattle.std.proofs.lemmas.List.{length-map}
use Rattle.httparse.specs.Spans.{header_bytes}
use Rattle.dav_parts.specs.Targets.{put_limit}
use Rattle.dav_wire.specs.Requests.{is_put}
use Rattle.dav_wire.specs.declared.framing.Framing.TheVariants.{Refused, Body}
use Rattle.dav_parts.proofs.FieldLemmas.{absent_only, one_only, many_only}
use Rattle.dav_wire.proofs.FramingLemmas.{framing_crowded, framing_coded, framing_plain, lengths_none, lengths_one, lengths_many}
use Rattle.dav_wire.proofs.framing.framing_of.Goals as goal
use Rattle.dav_wire.proofs.framing.framing_of.Goals.{then-puts-2, else-puts-2}

pub returns-then-fields-gt-FIELD_LIMIT : goal.returns-then-fields-gt-FIELD_LIMIT
returns-then-fields-gt-FIELD_LIMIT c = framing_crowded c.args.method.now c.args.target.now
    (map (header_bytes c.args.text.now) c.args.fields.now)
    (omega (
      arith,
      length-map c.args.fields.now (header_bytes c.args.text.now),
      c.if-fields-gt-FIELD_LIMIT.true,
    ))

pub returns-in_default : goal.returns-in_default
returns-in_default c = framing_coded c.args.method.now c.args.target.now
    (map (header_bytes c.args.text.now) c.args.fields.now) c.field_value.result
    c.field_value.ensures c.in_default.not-Absent

pub returns-in-Absent-field_value : goal.returns-in-Absent-field_value
returns-in-Absent-field_value c =
    let fields = map (header_bytes c.args.text.now) c.args.fields.now in
    let few : length fields ≤ 128 = omega (
      arith,
      length-map c.args.fields.now
          (header_bytes c.args.text.now),
    ) in
    sym (lengths_none _ (put_limit c.args.target.now) _
    (absent_only c.field_value-2.result _ c.field_value-2.ensures c.in-Absent-field_value.is)
    ∙ cond-true _ (Refused 400) (Body 0) (sym c.is_put-puts.ensures ∙ c.if-puts.true))
    ∙ framing_plain c.args.method.now c.args.target.now fields few
    (absent_only c.field_value.result _ c.field_value.ensures c.in-Absent.is)

pub returns-in-Absent-2 : goal.returns-in-Absent-2
returns-in-Absent-2 c =
    let fields = map (header_bytes c.args.text.now) c.args.fields.now in
    let few : length fields ≤ 128 = omega (
      arith,
      length-map c.args.fields.now
          (header_bytes c.args.text.now),
    ) in
    sym (lengths_none _ (put_limit c.args.target.now) _
    (absent_only c.field_value-2.result _ c.field_value-2.ensures c.in-Absent-field_value.is)
    ∙ cond-false _ (Refused 400) (Body 0) (sym c.is_put-puts.ensures ∙ c.if-puts.false))
    ∙ framing_plain c.args.method.now c.args.target.now fields few
    (absent_only c.field_value.result _ c.field_value.ensures c.in-Absent.is)

pub returns-after-puts-2 : goal.returns-after-puts-2
returns-after-puts-2 c =
    let fields = map (header_bytes c.args.text.now) c.args.fields.now in
    let few : length fields ≤ 128 = omega (
      arith,
      length-map c.args.fields.now
          (header_bytes c.args.text.now),
    ) in
    let puts = is_put c.args.method.now in
    let limit = put_limit c.args.target.now in
    let given : c.if-puts-2.limit ≡ cond puts limit (2 ^ 64 - 1) = elim c.if-puts-2.branch [
      | then-puts-2 w ↦ w.limit-is ∙ w.put_limit-limit.ensures
          ∙ sym (cond-true puts limit (2 ^ 64 - 1) (sym c.is_put-puts.ensures ∙ w.if-puts-2.true))
      | else-puts-2 w ↦ w.limit-is
          ∙ sym (cond-false puts limit (2 ^ 64 - 1) (sym c.is_put-puts.ensures
          ∙ w.if-puts-2.false))
    ] in
    c.framing_of_number.ensures
    ∙ lengths_one puts limit c.if-puts-2.limit _ c.in-Single.value.now c.read_decimal.result
    (one_only c.field_value-2.result c.in-Single.value _ c.field_value-2.ensures c.in-Single.is)
    c.read_decimal.ensures given
    ∙ framing_plain c.args.method.now c.args.target.now fields few
    (absent_only c.field_value.result _ c.field_value.ensures c.in-Absent.is)

pub returns-in-Repeated : goal.returns-in-Repeated
returns-in-Repeated c =
    let fields = map (header_bytes c.args.text.now) c.args.fields.now in
    let few : length fields ≤ 128 = omega (
      arith,
      length-map c.args.fields.now
          (header_bytes c.args.text.now),
    ) in
    sym (lengths_many (is_put c.args.method.now) (put_limit c.args.target.now) _
    (many_only c.field_value-2.result _ c.field_value-2.ensures c.in-Repeated.is))
    ∙ framing_plain c.args.method.now c.args.target.now fields few
    (absent_only c.field_value.result _ c.field_value.ensures c.in-Absent.is)
