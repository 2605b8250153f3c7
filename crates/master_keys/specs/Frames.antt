-- The item that stands for a sealed one: without title and body, and with the pairs by which other clients place it.
use Rattle.std.specs.Prelude.{ℕ, List, [], ◌∷◌, ◌++◌, codes, Option, Some, None, unwrap_or}
use Rattle.item_text.specs.Props.{value_of}
use Rattle.item_text.specs.declared.item.Item.{Item}
use Rattle.item_text.specs.declared.item.Prop.{Prop}

abbrev pub pair_with : List ℕ → List ℕ → Prop
pair_with key value = record { key = key; value = value }

abbrev pub pair_if : List ℕ → Option (List ℕ) → List Prop
pair_if key None = []
pair_if key (Some value) = pair_with key value ∷ []

-- the topmost pair of a key, if there is one
abbrev pub topmost : List ℕ → Item → List Prop
topmost key item = pair_if key (value_of key item.props)

-- the pairs by which an item is placed
abbrev pub place_props : Item → List Prop
place_props item =
    topmost (codes "id") item ++ topmost (codes "parent_id") item ++ topmost (codes "note_id") item
    ++ topmost (codes "tag_id") item ++ topmost (codes "updated_time") item

-- the pairs of the sealed item, in their order
abbrev pub frame_props : Item → List ℕ → List Prop
frame_props item cipher =
    place_props item ++ pair_with (codes "encryption_applied") (codes "1") ∷ []
    ++ pair_with (codes "encryption_cipher_text") cipher ∷ [] ++ topmost (codes "type_") item

-- the item with this cipher text in its place
abbrev pub framed : Item → List ℕ → Item
framed item cipher = record { title = None; body = []; props = frame_props item cipher }

-- the cipher text of a sealed item; one that is absent is an empty one
abbrev pub cipher_of : Item → List ℕ
cipher_of item = unwrap_or (value_of (codes "encryption_cipher_text") item.props) []
