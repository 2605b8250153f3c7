use Rattle.item_text.specs.declared.item.Prop.{Prop}
use Rattle.item_text.proofs.Setting.{set_valid}
use Rattle.item_text.proofs.props.set_prop.Goals as goal

pub returns-clause-valid : goal.returns-clause-valid
returns-clause-valid c = λ valid typed.
    let p : Prop = record { key = c.args.key.now; value = c.args.value } in
    let set = rw c.in_ok-of.ensures at c.put.ensures.ok in
    set_valid c.put.result c.args.item.now c.put.new.item p set c.put.ensures.err
    c.requires typed valid
