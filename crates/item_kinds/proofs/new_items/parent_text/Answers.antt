use Rattle.item_kinds.proofs.NewItems.{id_field, empty_field}
use Rattle.item_kinds.proofs.new_items.parent_text.Goals as goal

pub returns-in-Some-clause-field : goal.returns-in-Some-clause-field
returns-in-Some-clause-field c = id_field _ _ c.as_str.ensures.same c.as_str.ensures.digits

pub returns-in-None-clause-field : goal.returns-in-None-clause-field
returns-in-None-clause-field c = empty_field
