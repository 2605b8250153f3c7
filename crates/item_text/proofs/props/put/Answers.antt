use Rattle.std.proofs.Common.{◌≡◌, ℕ, List, None, Some, sym, ap, ◌∙◌}
use Rattle.std.specs.Prelude.{position, unwrap_or}
use Rattle.std.specs.List.{insert}
use Rattle.std.proofs.lemmas.Result.{on_ok_weaker}
use Rattle.item_text.specs.declared.item.Prop.{Prop}
use Rattle.item_text.specs.Props.{has_key, type_key}
use Rattle.item_text.proofs.Keys.{with_set, with_insert}
use Rattle.item_text.proofs.props.put.Goals as goal

pub returns-in-Some-clause-ok : goal.returns-in-Some-clause-ok
returns-in-Some-clause-ok c =
    let old = c.args.item.now.props in
    let place : position (has_key c.args.prop.key) old ≡ Some c.in-Some.place =
    sym (rw (c.as_slice.ensures, c.as_slice-2.ensures) at c.place_of.ensures.place)
    ∙ c.in-Some.is in
    ap (λ (ps : List Prop). record c.args.item.now { props = ps })
    (c.set.ensures ∙ sym (with_set c.args.prop old c.in-Some.place place))

pub returns-clause-ok : goal.returns-clause-ok
returns-clause-ok c =
    let old = c.args.item.now.props in
    let none : position (has_key c.args.prop.key) old ≡ None =
    sym (rw (c.as_slice.ensures, c.as_slice-2.ensures) at c.place_of.ensures.place)
    ∙ c.in_default.is in
    let place : c.unwrap_or-place.result
    ≡ unwrap_or (position (has_key type_key) old) c.len.result =
    rw (c.place_of-2.ensures.place, c.as_slice-3.ensures) at c.unwrap_or-place.ensures in
    let whole = with_insert c.args.prop old none in
    on_ok_weaker c.insert.result
    (λ e. ap (λ (ps : List Prop). record c.args.item.now { props = ps })
    (e ∙ ap (λ (n : ℕ). insert old n c.args.prop)
    (place ∙ ap (λ (n : ℕ). unwrap_or (position (has_key type_key) old) n) c.len.ensures)
    ∙ sym whole)) c.insert.ensures.ok
