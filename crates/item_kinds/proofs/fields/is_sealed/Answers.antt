use Rattle.item_kinds.proofs.Fielded.{sealed_some, sealed_none}
use Rattle.item_kinds.proofs.fields.is_sealed.Goals as goal

pub returns-in-Some : goal.returns-in-Some
returns-in-Some c =
    sealed_some c.args.item.now.props c.prop.result c.in-Some.value c.as_str.result.now c.eq.result
    c.prop.ensures c.in-Some.is c.as_str.ensures c.eq.ensures

pub returns-in-None : goal.returns-in-None
returns-in-None c = sealed_none c.args.item.now.props c.prop.result c.prop.ensures c.in-None.is
