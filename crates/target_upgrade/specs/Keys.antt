-- The keys that stand in item files, as older versions of a target kept them.
use Rattle.std.specs.Prelude.{ℕ, zero, suc, Bool, ◌&&◌, ◌||◌, not, List, [], ◌∷◌, ◌++◌, length, codes, nat_eq, nat_le, bytes_eq, Option, Some, None, option_map, option_and_then, if◌then◌else◌}
use Rattle.std.specs.Char.{is_ascii_digit}
use Rattle.std.specs.List.{list_all, list_any}
use Rattle.std.specs.Str.Parse.{digits_value}
use Rattle.item_kinds.specs.Kinds.{is_number, type_number}
use Rattle.item_kinds.specs.Times.{time_text}
use Rattle.item_text.specs.Grammar.{item_in}
use Rattle.item_text.specs.Props.{has_value, type_key, value_of}
use Rattle.item_text.specs.declared.item.Item.{Item}
use Rattle.item_text.specs.declared.item.Prop.{Prop}
use Rattle.jop_base.specs.Id.{is_id}
use Rattle.jop_base.specs.Times.{last_time}
use Rattle.sync_info.specs.Info.{has_id}
use Rattle.sync_info.specs.declared.info.Info.{Info}
use Rattle.sync_info.specs.declared.key_record.KeyRecord.{KeyRecord}

-- ---- times, as a number

abbrev pub is_count_of : List ℕ → ℕ → Bool
is_count_of text time =
    list_all is_ascii_digit text && (nat_le 1 (length text)
    && (nat_le (length text) 15 && nat_eq (digits_value 10 text) time))

-- whether a text gives this time: as it is written, or its milliseconds in digits
abbrev pub is_time_of : List ℕ → ℕ → Bool
is_time_of text time = bytes_eq text (time_text time) || is_count_of text time

-- the greatest number up to this one that passes a test, or 0 if none does
unfoldable pub last_up_to : (ℕ → Bool) → ℕ → ℕ
last_up_to test zero = 0
last_up_to test (suc n) = if test (suc n) then suc n else last_up_to test n

-- the time that a text gives, 0 if it gives none
unfoldable pub time_in : List ℕ → ℕ
time_in text = last_up_to (is_time_of text) last_time

-- ---- the pairs of an item

abbrev pub time_at : Option (List ℕ) → ℕ
time_at None = 0
time_at (Some text) = time_in text

-- when the item was last changed, 0 if no pair tells
abbrev pub last_updated : List Prop → ℕ
last_updated props = time_at (value_of (codes "updated_time") props)

-- the number of a master key's kind
abbrev pub MASTER_KEY : ℕ
MASTER_KEY = 9

abbrev pub is_master : List Prop → Bool
is_master props = is_number MASTER_KEY (option_and_then type_number (value_of type_key props))

abbrev pub tells_sealed : List Prop → Bool
tells_sealed props = has_value (codes "encryption_applied") (codes "1") props

-- the pairs are those of an unsealed master key with this id
abbrev pub is_key : List ℕ → List Prop → Bool
is_key id props =
    is_id id && (has_value (codes "id") id props && (not (tells_sealed props) && is_master props))

abbrev pub record_with : List ℕ → ℕ → List ℕ → KeyRecord
record_with id updated content =
    record { id = id; content = content; updated = updated; others = [] }

-- the key that an item gives, if it is a master key of this id and has its content
abbrev pub key_of_item : List ℕ → Item → Option KeyRecord
key_of_item id item =
    if is_key id item.props
    then option_map (record_with id (last_updated item.props))
    (value_of (codes "content") item.props)
    else None

-- the key that a file of this id gives: it must be the text of an item that gives one
unfoldable pub key_of : List ℕ → List ℕ → Option KeyRecord
key_of id bytes = option_and_then (key_of_item id) (item_in bytes)

-- ---- the keys of an info

-- the info with a key, unless it has one of that id
abbrev pub with_key : Option KeyRecord → Info → Info
with_key None info = info
with_key (Some key) info =
    if list_any (has_id key.id) info.keys then info
    else record info { keys = info.keys ++ key ∷ [] }
