-- The pairs of the items that this client makes: for each kind one table, which names in order the
-- keys and what stands behind them.
use Rattle.std.specs.Prelude.{ℕ, List, [], ◌∷◌, map, codes}
use Rattle.item_text.specs.declared.item.Prop.{Prop}

-- the texts that a new item is given, each empty if its kind has none
pub record Given : Type 0 where
  pub id : List ℕ
  pub stamp : List ℕ
  pub parent : List ℕ
  pub note : List ℕ
  pub tag : List ℕ
  pub mime : List ℕ
  pub file : List ℕ
  pub size : List ℕ

-- an id and a time alone
abbrev pub given : List ℕ → List ℕ → Given
given id stamp = record {
  id = id;
  stamp = stamp;
  parent = [];
  note = [];
  tag = [];
  mime = [];
  file = [];
  size = [];
}

-- what stands behind a key: a text that all items of the kind have, or one that the item is given
pub data Slot : Type 0 where
  fixed : List ℕ → Slot
  id : Slot
  stamp : Slot
  parent : Slot
  note : Slot
  tag : Slot
  mime : Slot
  file : Slot
  size : Slot

abbrev pub text_in : Given → Slot → List ℕ
text_in g (fixed text) = text
text_in g id = g.id
text_in g stamp = g.stamp
text_in g parent = g.parent
text_in g note = g.note
text_in g tag = g.tag
text_in g mime = g.mime
text_in g file = g.file
text_in g size = g.size

-- a key with its value
abbrev pub pair : List ℕ → List ℕ → Prop
pair key value = record { key = key; value = value }

-- the pairs of a table
abbrev pub filled : List (List ℕ × Slot) → Given → List Prop
filled slots g = map (λ s. pair s.0 (text_in g s.1)) slots

abbrev pub note_slots : List (List ℕ × Slot)
note_slots =
    (codes "id", id)
    ∷ (codes "parent_id", parent)
    ∷ (codes "created_time", stamp)
    ∷ (codes "updated_time", stamp)
    ∷ (codes "is_conflict", fixed (codes "0"))
    ∷ (codes "latitude", fixed (codes "0.00000000"))
    ∷ (codes "longitude", fixed (codes "0.00000000"))
    ∷ (codes "altitude", fixed (codes "0.0000"))
    ∷ (codes "author", fixed [])
    ∷ (codes "source_url", fixed [])
    ∷ (codes "is_todo", fixed (codes "0"))
    ∷ (codes "todo_due", fixed (codes "0"))
    ∷ (codes "todo_completed", fixed (codes "0"))
    ∷ (codes "source", fixed (codes "jop"))
    ∷ (codes "source_application", fixed (codes "jop"))
    ∷ (codes "application_data", fixed [])
    ∷ (codes "order", fixed (codes "0"))
    ∷ (codes "user_created_time", stamp)
    ∷ (codes "user_updated_time", stamp)
    ∷ (codes "encryption_cipher_text", fixed [])
    ∷ (codes "encryption_applied", fixed (codes "0"))
    ∷ (codes "markup_language", fixed (codes "1"))
    ∷ (codes "is_shared", fixed (codes "0"))
    ∷ (codes "type_", fixed (codes "1"))
    ∷ []

-- a folder's, or a tag's, by the text of the kind's number
abbrev pub folder_slots : List ℕ → List (List ℕ × Slot)
folder_slots kind =
    (codes "id", id)
    ∷ (codes "created_time", stamp)
    ∷ (codes "updated_time", stamp)
    ∷ (codes "user_created_time", stamp)
    ∷ (codes "user_updated_time", stamp)
    ∷ (codes "encryption_cipher_text", fixed [])
    ∷ (codes "encryption_applied", fixed (codes "0"))
    ∷ (codes "parent_id", parent)
    ∷ (codes "is_shared", fixed (codes "0"))
    ∷ (codes "type_", fixed kind)
    ∷ []

abbrev pub note_tag_slots : List (List ℕ × Slot)
note_tag_slots =
    (codes "id", id)
    ∷ (codes "note_id", note)
    ∷ (codes "tag_id", tag)
    ∷ (codes "created_time", stamp)
    ∷ (codes "updated_time", stamp)
    ∷ (codes "user_created_time", stamp)
    ∷ (codes "user_updated_time", stamp)
    ∷ (codes "encryption_cipher_text", fixed [])
    ∷ (codes "encryption_applied", fixed (codes "0"))
    ∷ (codes "is_shared", fixed (codes "0"))
    ∷ (codes "type_", fixed (codes "6"))
    ∷ []

abbrev pub resource_slots : List (List ℕ × Slot)
resource_slots =
    (codes "id", id)
    ∷ (codes "mime", mime)
    ∷ (codes "filename", file)
    ∷ (codes "created_time", stamp)
    ∷ (codes "updated_time", stamp)
    ∷ (codes "user_created_time", stamp)
    ∷ (codes "user_updated_time", stamp)
    ∷ (codes "file_extension", fixed [])
    ∷ (codes "encryption_cipher_text", fixed [])
    ∷ (codes "encryption_applied", fixed (codes "0"))
    ∷ (codes "encryption_blob_encrypted", fixed (codes "0"))
    ∷ (codes "size", size)
    ∷ (codes "is_shared", fixed (codes "0"))
    ∷ (codes "type_", fixed (codes "4"))
    ∷ []
