use Rattle.std.proofs.Common.{List, Option, sym, ap, ◌∙◌, Bor}
use Rattle.std.specs.Prelude.{option_map}
use Rattle.jop_base.specs.declared.text.Text.{Text}
use Rattle.item_text.specs.declared.item.Prop.{Prop}
use Rattle.item_text.specs.Props.{value_of}
use Rattle.item_text.proofs.Keys.{value_found, value_none}
use Rattle.item_text.proofs.props.prop.Goals as goal

pub returns-in_err-place : goal.returns-in_err-place
returns-in_err-place c =
    let none = value_none c.args.key.now c.as_slice-props.result.now
    (sym c.place_of.ensures.place ∙ c.in_err-place.was) in
    ap (λ (o : Option (Bor Text)). option_map (λ value. value.now) o) c.from_residual.ensures
    ∙ sym none ∙ ap (λ (ps : List Prop). value_of c.args.key.now ps) c.as_slice-props.ensures

pub returns : goal.returns
returns c =
    let found = value_found c.args.key.now c.as_slice-props.result.now c.in_ok-place.place
    c.index-props-place.result (sym c.place_of.ensures.place ∙ c.in_ok-place.was) in
    sym found ∙ ap (λ (ps : List Prop). value_of c.args.key.now ps) c.as_slice-props.ensures
