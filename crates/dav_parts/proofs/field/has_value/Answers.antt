use Rattle.std.proofs.Common.{ap, sym, ◌∙◌, List, ℕ}
use Rattle.std.specs.List.{list_any}
use Rattle.dav_parts.specs.Fields.{is_same_name}
use Rattle.dav_parts.proofs.FieldLemmas.{nothing_found, values_more_yes, values_more_no, any_yes, any_no, any_kept}
use Rattle.dav_parts.proofs.field.has_value.Goals as goal
use Rattle.dav_parts.proofs.field.has_value.Goals.{then-is_same_name+then-is_same_name-2, else-is_same_name, else-is_same_name-via-then-is_same_name+else-is_same_name-2, else-is_same_name-via-else-is_same_name}

pub loop-field-init : goal.loop-field-init
loop-field-init c = ap (list_any (is_same_name c.args.value.now))
    (sym (nothing_found c.args.name.now))

pub loop-field-preserved : goal.loop-field-preserved
loop-field-preserved c =
    let name = c.args.name.now in
    let text = c.args.text.now in
    let fields = c.args.fields.now in
    let i = c.loop-field.field-index in
    let test = is_same_name c.args.value.now in
    let tested = ap (λ (t : List ℕ). is_same_name t name) (sym c.of.ensures)
    ∙ sym c.is_same_name.ensures in
    elim c.if-is_same_name.branch [
      | then-is_same_name+then-is_same_name-2 w ↦ w.found-is
          ∙ any_yes test _ _ _ (values_more_yes name text fields i c.loop-field-test.true _
          (tested ∙ w.if-is_same_name.true)) (ap test (sym w.of-then-is_same_name.ensures)
          ∙ sym w.is_same_name-then-is_same_name.ensures ∙ w.if-is_same_name-2.true)
      | else-is_same_name w ↦ w.found-is ∙ elim w.else-is_same_name.branch [
        | else-is_same_name-via-then-is_same_name+else-is_same_name-2 v ↦ any_no test _ _ _ _
            (values_more_yes name text fields i c.loop-field-test.true _ (tested
            ∙ v.if-is_same_name.true)) (ap test (sym v.of-then-is_same_name.ensures)
            ∙ sym v.is_same_name-then-is_same_name.ensures ∙ v.if-is_same_name-2.false)
            c.loop-field.invariant
        | else-is_same_name-via-else-is_same_name v ↦ any_kept test _ _ _
            (values_more_no name text fields i c.loop-field-test.true _ (tested
            ∙ v.if-is_same_name.false)) c.loop-field.invariant
      ]
    ]
