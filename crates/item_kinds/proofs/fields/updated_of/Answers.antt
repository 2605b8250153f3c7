use Rattle.item_kinds.proofs.Fielded.{updated_some, updated_none}
use Rattle.item_kinds.proofs.fields.updated_of.Goals as goal

pub returns-in-Some : goal.returns-in-Some
returns-in-Some c =
    updated_some c.args.item.now.props c.prop.result c.in-Some.value c.as_slice.result.now
    c.read_time.result c.unwrap_or.result c.prop.ensures c.in-Some.is c.as_slice.ensures
    c.read_time.ensures.some c.read_time.ensures.none c.unwrap_or.ensures

pub returns-in-None : goal.returns-in-None
returns-in-None c = updated_none c.args.item.now.props c.prop.result c.prop.ensures c.in-None.is
