-- What setting a pair does to an item.
use Rattle.std.specs.Prelude.{◌≡◌}
use Rattle.item_text.specs.declared.item.Item.{Item}
use Rattle.item_text.specs.declared.item.Prop.{Prop}
use Rattle.item_text.specs.Props.{with_prop}

-- the new item has the pair set, and else what the old one has
abbrev pub Sets : Prop → Item → Item → Type 0
Sets p old new = new ≡ record old { props = with_prop p old.props }
