use Rattle.std.proofs.Common.{List, All, rules, subst}
use Rattle.std.proofs.lemmas.List.{take_all}
use Rattle.std.proofs.lemmas.List.Elements.{All-more, recursion_from_All}
use Rattle.item_text.specs.declared.item.Prop.{Prop}
use Rattle.item_text.specs.Valid.{IsProp}
use Rattle.item_text.proofs.valid.are_props.Goals as goal

pub loop-prop-preserved : goal.loop-prop-preserved
loop-prop-preserved c =
    let P : Prop → Type 0 = λ p. IsProp p in
    All-more IsProp c.args.props.now c.loop-prop.prop-index c.prop-item.result c.loop-prop-test.true
    c.loop-prop.invariant (subst P c.prop-item.is (c.is_prop.ensures.0 c.if-not-is_prop.false))

pub returns : goal.returns
returns c =
    let P : List Prop → Type 0 = λ ps. All IsProp ps in
    let all = subst P
    (take_all c.loop-prop.prop-index c.args.props.now c.loop-prop-test.false)
    c.loop-prop.invariant in
    (λ _. recursion_from_All IsProp c.args.props.now all, λ _. search rules)
