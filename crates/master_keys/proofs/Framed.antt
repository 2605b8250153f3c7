-- The frame of a sealed item.
use Rattle.std.proofs.Common.{◌≡◌, ℕ, true, false, bytes_eq, codes, List, [], ◌∷◌, ◌++◌, Option, Some, None, refl, sym, ap, subst, ◌∙◌}
use Rattle.std.specs.List.{AllByRecursion}
use Rattle.std.specs.Prelude.{MatchOption}
use Rattle.item_text.specs.Lines.{has}
use Rattle.item_text.specs.Props.{is_text, value_of}
use Rattle.item_text.specs.Valid.{IsItem, IsProp, is_type_value}
use Rattle.item_text.specs.declared.item.Item.{Item}
use Rattle.item_text.specs.declared.item.Prop.{Prop}
use Rattle.jed_format.specs.Write.{are_visible}
use Rattle.master_keys.proofs.Pairs.{append_valid, one_has, one_lacks, pair_has, pair_lacks, topmost_valid, value_behind, value_found, value_lacks}
use Rattle.master_keys.proofs.Visible.{IsField-visible}
use Rattle.master_keys.specs.Frames.{frame_props, framed, pair_with, place_props, topmost}
use Rattle.master_keys.specs.Opening.{says_sealed}

abbrev id_part : Item → List Prop
id_part item = topmost (codes "id") item

abbrev parent_part : Item → List Prop
parent_part item = id_part item ++ topmost (codes "parent_id") item

abbrev note_part : Item → List Prop
note_part item = parent_part item ++ topmost (codes "note_id") item

abbrev tag_part : Item → List Prop
tag_part item = note_part item ++ topmost (codes "tag_id") item

abbrev applied_pair : List Prop
applied_pair = pair_with (codes "encryption_applied") (codes "1") ∷ []

abbrev cipher_pair : List ℕ → List Prop
cipher_pair cipher = pair_with (codes "encryption_cipher_text") cipher ∷ []

abbrev type_part : Item → List Prop
type_part item = topmost (codes "type_") item

-- the key is none of those by which an item is placed
record IsElsewhere (k : List ℕ) : Type 0 where
  id : bytes_eq (codes "id") k ≡ false
  parent : bytes_eq (codes "parent_id") k ≡ false
  note : bytes_eq (codes "note_id") k ≡ false
  tag : bytes_eq (codes "tag_id") k ≡ false
  updated : bytes_eq (codes "updated_time") k ≡ false

place_lacks : (k : List ℕ) (item : Item) → IsElsewhere k → value_of k (place_props item) ≡ None
place_lacks k item is =
    value_lacks k (tag_part item) (topmost (codes "updated_time") item)
    (value_lacks k (note_part item) (topmost (codes "tag_id") item)
    (value_lacks k (parent_part item) (topmost (codes "note_id") item)
    (value_lacks k (id_part item) (topmost (codes "parent_id") item)
    (pair_lacks k (codes "id") (value_of (codes "id") item.props) is.id)
    (pair_lacks k (codes "parent_id") (value_of (codes "parent_id") item.props) is.parent))
    (pair_lacks k (codes "note_id") (value_of (codes "note_id") item.props) is.note))
    (pair_lacks k (codes "tag_id") (value_of (codes "tag_id") item.props) is.tag))
    (pair_lacks k (codes "updated_time") (value_of (codes "updated_time") item.props) is.updated)

applied_elsewhere : IsElsewhere (codes "encryption_applied")
applied_elsewhere = record { id = refl; parent = refl; note = refl; tag = refl; updated = refl }

cipher_elsewhere : IsElsewhere (codes "encryption_cipher_text")
cipher_elsewhere = record { id = refl; parent = refl; note = refl; tag = refl; updated = refl }

type_elsewhere : IsElsewhere (codes "type_")
type_elsewhere = record { id = refl; parent = refl; note = refl; tag = refl; updated = refl }

-- ---- what it has

pub frame_id : (item : Item) (cipher id : List ℕ) → value_of (codes "id") item.props ≡ Some id
    → value_of (codes "id") (frame_props item cipher) ≡ Some id
frame_id item cipher id is =
    let k : List ℕ = codes "id" in
    let first : value_of k (id_part item) ≡ Some id = pair_has k (value_of k item.props) ∙ is in
    value_found k (place_props item ++ applied_pair ++ cipher_pair cipher) (type_part item) id
    (value_found k (place_props item ++ applied_pair) (cipher_pair cipher) id
    (value_found k (place_props item) applied_pair id
    (value_found k (tag_part item) (topmost (codes "updated_time") item) id
    (value_found k (note_part item) (topmost (codes "tag_id") item) id
    (value_found k (parent_part item) (topmost (codes "note_id") item) id
    (value_found k (id_part item) (topmost (codes "parent_id") item) id first))))))

pub frame_applied : (item : Item) (cipher : List ℕ)
    → value_of (codes "encryption_applied") (frame_props item cipher) ≡ Some (codes "1")
frame_applied item cipher =
    let k : List ℕ = codes "encryption_applied" in
    value_found k (place_props item ++ applied_pair ++ cipher_pair cipher) (type_part item) (codes "1")
    (value_found k (place_props item ++ applied_pair) (cipher_pair cipher) (codes "1")
    (value_behind k (place_props item) applied_pair (place_lacks k item applied_elsewhere) ∙ one_has k (codes "1")))

pub frame_cipher : (item : Item) (cipher : List ℕ)
    → value_of (codes "encryption_cipher_text") (frame_props item cipher) ≡ Some cipher
frame_cipher item cipher =
    let k : List ℕ = codes "encryption_cipher_text" in
    let front : value_of k (place_props item ++ applied_pair) ≡ None =
    value_lacks k (place_props item) applied_pair (place_lacks k item cipher_elsewhere)
    (one_lacks k (codes "encryption_applied") (codes "1") refl) in
    value_found k (place_props item ++ applied_pair ++ cipher_pair cipher) (type_part item) cipher
    (value_behind k (place_props item ++ applied_pair) (cipher_pair cipher) front ∙ one_has k cipher)

frame_type : (item : Item) (cipher : List ℕ)
    → value_of (codes "type_") (frame_props item cipher) ≡ value_of (codes "type_") item.props
frame_type item cipher =
    let k : List ℕ = codes "type_" in
    let front : value_of k (place_props item ++ applied_pair ++ cipher_pair cipher) ≡ None =
    value_lacks k (place_props item ++ applied_pair) (cipher_pair cipher)
    (value_lacks k (place_props item) applied_pair (place_lacks k item type_elsewhere)
    (one_lacks k (codes "encryption_applied") (codes "1") refl))
    (one_lacks k (codes "encryption_cipher_text") cipher refl) in
    value_behind k (place_props item ++ applied_pair ++ cipher_pair cipher) (type_part item) front
    ∙ pair_has k (value_of k item.props)

pub frame_sealed : (item : Item) (cipher : List ℕ) → says_sealed (framed item cipher) ≡ true
frame_sealed item cipher = ap (is_text (codes "1")) (frame_applied item cipher)

-- ---- it is valid

kept_valid : (key : List ℕ) (item : Item) → are_visible key ≡ true → has 58 key ≡ false → IsItem item
    → AllByRecursion IsProp (topmost key item)
kept_valid key item seen colon valid = topmost_valid key item (IsField-visible key seen) colon valid.props

place_valid : (item : Item) → IsItem item → AllByRecursion IsProp (place_props item)
place_valid item valid =
    append_valid (tag_part item) (topmost (codes "updated_time") item)
    (append_valid (note_part item) (topmost (codes "tag_id") item)
    (append_valid (parent_part item) (topmost (codes "note_id") item)
    (append_valid (id_part item) (topmost (codes "parent_id") item)
    (kept_valid (codes "id") item refl refl valid)
    (kept_valid (codes "parent_id") item refl refl valid))
    (kept_valid (codes "note_id") item refl refl valid))
    (kept_valid (codes "tag_id") item refl refl valid))
    (kept_valid (codes "updated_time") item refl refl valid)

pair_is_valid : (key value : List ℕ) → are_visible key ≡ true → has 58 key ≡ false → are_visible value ≡ true
    → AllByRecursion IsProp (pair_with key value ∷ [])
pair_is_valid key value seen colon visible =
    (record { key = IsField-visible key seen; no_colon = colon; value = IsField-visible value visible }, tt)

pub frame_valid : (item : Item) (cipher : List ℕ) → IsItem item → are_visible cipher ≡ true
    → IsItem (framed item cipher)
frame_valid item cipher valid visible =
    let P : Option (List ℕ) → Type 0 = λ (v : Option (List ℕ)). MatchOption v ⊥ (λ value. is_type_value value ≡ true) in
    record {
      title = tt;
      no_title = refl;
      props = append_valid (place_props item ++ applied_pair ++ cipher_pair cipher) (type_part item)
          (append_valid (place_props item ++ applied_pair) (cipher_pair cipher)
          (append_valid (place_props item) applied_pair (place_valid item valid)
          (pair_is_valid (codes "encryption_applied") (codes "1") refl refl refl))
          (pair_is_valid (codes "encryption_cipher_text") cipher refl refl visible))
          (kept_valid (codes "type_") item refl refl valid);
      typed = subst P (sym (frame_type item cipher)) valid.typed;
    }
