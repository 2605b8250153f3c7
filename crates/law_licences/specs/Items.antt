-- What rows and files say of their items.
use Rattle.std.specs.Prelude.{ℕ, List, Bool, false, ◌&&◌, codes, if◌then◌else◌, Option, Some, None, option_map}
use Rattle.item_text.specs.Grammar.{item_in}
use Rattle.item_text.specs.Props.{has_value}
use Rattle.item_text.specs.declared.item.Item.{Item}
use Rattle.local_store.specs.Rows.{has_kind, item_of}
use Rattle.local_store.specs.declared.content.Content.{Content}
use Rattle.local_store.specs.declared.content.Content.TheVariants.{Plain, Sealed}
use Rattle.local_store.specs.declared.row.Row.{Row}
use Rattle.law_licences.specs.Sealing.{Sealing, no_keys}

-- ---- kinds

abbrev pub is_note : Item → Bool
is_note item = has_kind (record { 0 = 1 }) item

abbrev pub is_folder : Item → Bool
is_folder item = has_kind (record { 0 = 2 }) item

abbrev pub is_resource : Item → Bool
is_resource item = has_kind (record { 0 = 4 }) item

-- a note that can be read
abbrev pub is_plain_note : Content → Bool
is_plain_note (Plain item) = is_note item
is_plain_note (Sealed item) = false

-- ---- pairs

-- whether the topmost value of the key is this one
abbrev pub says : List ℕ → List ℕ → Item → Bool
says key value item = has_value key value item.props

-- whether the row is a readable note in this folder
abbrev pub is_note_in : List ℕ → Row → Bool
is_note_in folder row =
    is_plain_note row.content && says (codes "parent_id") folder (item_of row.content)

-- ---- files

-- the item, if it has this id
abbrev pub if_of : List ℕ → Option Item → Option Item
if_of id None = None
if_of id (Some item) = if says (codes "id") id item then Some item else None

-- the item of this id that a file of these bytes is, if it is one
abbrev pub item_of_file : List ℕ → List ℕ → Option Item
item_of_file id bytes = if_of id (item_in bytes)

-- the item that is sealed in this one if it was opened, else this one, sealed
abbrev pub or_sealed : Option Item → Item → Content
or_sealed None item = Sealed item
or_sealed (Some inner) item = Plain inner

-- an item as a client has it whose session has these keys
abbrev pub content_with_keys : Sealing → Item → Content
content_with_keys s item =
    if says (codes "encryption_applied") (codes "1") item then or_sealed (s.opens item) item
    else Plain item

-- an item as a client without keys has it
abbrev pub content_without_keys : Item → Content
content_without_keys item = content_with_keys no_keys item

-- what a file of these bytes holds, beside its bytes, if it is an item of this id
abbrev pub remote_in : Sealing → List ℕ → List ℕ → Option (List ℕ × Content)
remote_in s id bytes = option_map (λ item. (bytes, content_with_keys s item)) (item_of_file id bytes)
