use Rattle.std.proofs.Common.{ap, sym, ◌∙◌, List, ℕ}
use Rattle.dav_parts.specs.Fields.{is_same_name}
use Rattle.dav_parts.proofs.FieldLemmas.{nothing_found, values_more_yes, values_more_no, found_first, found_more, found_kept}
use Rattle.dav_parts.proofs.field.field_value.Goals as goal
use Rattle.dav_parts.proofs.field.field_value.Goals.{then-is_same_name+in-Absent, then-is_same_name+in_default, else-is_same_name}

pub loop-field-init : goal.loop-field-init
loop-field-init c = nothing_found c.args.name.now

pub loop-field-preserved : goal.loop-field-preserved
loop-field-preserved c =
    let name = c.args.name.now in
    let text = c.args.text.now in
    let fields = c.args.fields.now in
    let i = c.loop-field.field-index in
    let tested = ap (λ (t : List ℕ). is_same_name t name) (sym c.of.ensures)
    ∙ sym c.is_same_name.ensures in
    elim c.if-is_same_name.branch [
      | then-is_same_name+in-Absent w ↦ found_first c.loop-field.found c.if-is_same_name.found
          w.of-in-Absent.result _ _ _ c.loop-field.invariant w.in-Absent.is w.found-is
          w.of-in-Absent.ensures (values_more_yes name text fields i c.loop-field-test.true _
          (tested ∙ w.if-is_same_name.true))
      | then-is_same_name+in_default w ↦ found_more c.loop-field.found c.if-is_same_name.found _ _ _
          c.loop-field.invariant w.in_default.not-Absent w.found-is
          (values_more_yes name text fields i c.loop-field-test.true _ (tested
          ∙ w.if-is_same_name.true))
      | else-is_same_name w ↦ found_kept c.loop-field.found c.if-is_same_name.found _ _
          c.loop-field.invariant w.found-is
          (values_more_no name text fields i c.loop-field-test.true _ (tested
          ∙ w.if-is_same_name.false))
    ]
