-- Rows and deletions by their ids, and what their items are.
use Rattle.std.specs.Prelude.{ℕ, List, Bool, option_and_then}
use Rattle.item_kinds.specs.declared.kind.Kind.{Kind}
use Rattle.item_kinds.specs.Kinds.{is_number, type_number}
use Rattle.item_text.specs.Props.{type_key, value_of}
use Rattle.item_text.specs.declared.item.Item.{Item}
use Rattle.local_store.specs.declared.content.Content.{Content}
use Rattle.local_store.specs.declared.content.Content.TheVariants.{Plain, Sealed}
use Rattle.local_store.specs.declared.deletion.Deletion.{Deletion}
use Rattle.local_store.specs.declared.row.Row.{Row}

abbrev pub row_id : Row → List ℕ
row_id r = r.id

abbrev pub deletion_id : Deletion → List ℕ
deletion_id d = d.id

-- the item, whether it is sealed or not
abbrev pub item_of : Content → Item
item_of (Plain item) = item
item_of (Sealed item) = item

-- whether the topmost `type_` of the item has the number of this kind
abbrev pub has_kind : Kind → Item → Bool
has_kind kind item =
    is_number kind.0 (option_and_then type_number (value_of type_key item.props))
