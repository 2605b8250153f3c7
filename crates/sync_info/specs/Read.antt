-- Which info a text holds, over the JSON value that `serde_json` reads of it.
use Rattle.std.specs.Prelude.{ℕ, Bool, false, not, List, [], ◌∷◌, Option, Some, None, nat_le, if◌then◌else◌, option_and_then, codes}
use Rattle.std.specs.Option.{option_map_or}
use Rattle.std.specs.Str.{is_utf8}
use Rattle.jop_base.specs.Id.{is_id}
use Rattle.jop_base.specs.Times.{last_time}
use Rattle.serde_json.specs.Data.{Data, Items, no_items, item, Members, no_members, member}
use Rattle.serde_json.specs.Find.{get, as_bool, as_number, as_str, as_array, as_object, as_u64}
use Rattle.serde_json.specs.Read.{read}
use Rattle.serde_json.specs.Written.{has_float, compact_text}
use Rattle.sync_info.specs.Info.{is_key_name, are_distinct, is_own_member}
use Rattle.sync_info.specs.declared.holder.Holder.{Holder}
use Rattle.sync_info.specs.declared.holder.Holder.TheVariants as holder
use Rattle.sync_info.specs.declared.info.Info.{Info}
use Rattle.sync_info.specs.declared.key_record.KeyRecord.{KeyRecord}
use Rattle.sync_info.specs.declared.member.Member.{Member}
use Rattle.sync_info.specs.declared.timed.Timed.{Timed}

-- ---- single values

-- `o.filter(test)`
abbrev pub option_filter : {T : Type 0} → (T → Bool) → Option T → Option T
option_filter test None = None
option_filter test (Some x) = if test x then Some x else None

-- a whole number that isn't negative
abbrev pub count_of : Data → Option ℕ
count_of d = option_and_then as_u64 (as_number d)

-- a time up to the end of the year 9999
abbrev pub time_of : Data → Option ℕ
time_of d = option_filter (λ t. nat_le t last_time) (count_of d)

abbrev pub json_id : Data → Option (List ℕ)
json_id d = option_filter is_id (as_str d)

-- the id of a key, or the empty text
abbrev pub key_name_of : Data → Option (List ℕ)
key_name_of d = option_filter is_key_name (as_str d)

-- ---- settings

-- a setting, if both parts are there
abbrev pub setting : {T : Type 0} → Option T → Option ℕ → Option (Timed T)
setting (Some value) (Some updated) = Some (record { value = value; updated = updated })
setting value updated = None

abbrev pub e2ee_of : Data → Option (Timed Bool)
e2ee_of d = setting (option_and_then as_bool (get (codes "value") d))
    (option_and_then time_of (get (codes "updatedTime") d))

abbrev pub active_of : Data → Option (Timed (List ℕ))
active_of d =
    setting (option_and_then key_name_of (get (codes "value") d))
    (option_and_then time_of (get (codes "updatedTime") d))

-- off if it is absent
abbrev pub e2ee_in : Data → Option (Timed Bool)
e2ee_in d = option_map_or e2ee_of (get (codes "e2ee") d)
    (Some (record { value = false; updated = 0 }))

-- none if it is absent
abbrev pub active_in : Data → Option (Timed (List ℕ))
active_in d =
    option_map_or active_of (get (codes "activeMasterKeyId") d)
    (Some (record { value = []; updated = 0 }))

-- ---- members that are kept

abbrev pub kept_of : Holder → Members → List Member
kept_of of no_members = []
kept_of of (member name d ms) =
    if is_own_member of name then kept_of of ms
    else record { name = name; json = compact_text d } ∷ kept_of of ms

abbrev pub kept_in : Holder → Data → List Member
kept_in of d = option_map_or (kept_of of) (as_object d) []

-- ---- keys

-- a record, if each part is there
abbrev pub key_record : Option (List ℕ) → Option (List ℕ) → Option ℕ → List Member
    → Option KeyRecord
key_record (Some id) (Some content) (Some updated) others =
    Some (record { id = id; content = content; updated = updated; others = others })
key_record id content updated others = None

abbrev pub id_in : Data → Option (List ℕ)
id_in d = option_and_then json_id (get (codes "id") d)

abbrev pub content_in : Data → Option (List ℕ)
content_in d = option_and_then as_str (get (codes "content") d)

-- 0 if it is absent
abbrev pub updated_in : Data → Option ℕ
updated_in d = option_map_or time_of (get (codes "updated_time") d) (Some 0)

abbrev pub record_of : Data → Option KeyRecord
record_of d = key_record (id_in d) (content_in d) (updated_in d) (kept_in holder.KeyRecord d)

-- a record before others, if they all are records
abbrev pub before : Option KeyRecord → Option (List KeyRecord) → Option (List KeyRecord)
before (Some key) (Some keys) = Some (key ∷ keys)
before key keys = None

abbrev pub records_of : Items → Option (List KeyRecord)
records_of no_items = Some []
records_of (item d ds) = before (record_of d) (records_of ds)

abbrev pub keys_of : Data → Option (List KeyRecord)
keys_of d = option_filter are_distinct (option_and_then records_of (as_array d))

-- none if the list is absent
abbrev pub keys_in : Data → Option (List KeyRecord)
keys_in d = option_map_or keys_of (get (codes "masterKeys") d) (Some [])

-- ---- the whole

-- an info, if each part is there
abbrev pub info : Option ℕ → Option (Timed Bool) → Option (Timed (List ℕ)) → Option (List KeyRecord)
    → List Member → Option Info
info (Some version) (Some e2ee) (Some active) (Some keys) others =
    Some (record { version = version; e2ee = e2ee; active = active; keys = keys; others = others })
info version e2ee active keys others = None

abbrev pub version_in : Data → Option ℕ
version_in d = option_and_then count_of (get (codes "version") d)

-- the info that an object is: only its version must be there
abbrev pub info_of : Data → Option Info
info_of d = info (version_in d) (e2ee_in d) (active_in d) (keys_in d) (kept_in holder.Info d)

-- The JSON value of a text, if its numbers are whole ones: `serde_json` reads a number with a point or an exponent,
-- `-0` and one that needs more than 64 bits as a float.
abbrev pub whole_value : List ℕ → Option Data
whole_value text = if is_utf8 text then option_filter (λ d. not (has_float d)) (read text) else None

-- the info that a text holds
abbrev pub info_in : List ℕ → Option Info
info_in text = option_and_then info_of (whole_value text)
