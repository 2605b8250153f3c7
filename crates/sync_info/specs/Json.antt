-- The JSON of an info.
use Rattle.std.specs.Prelude.{ℕ, List, [], ◌∷◌, unwrap_or, codes}
use Rattle.serde_json.specs.Data.{Data, null, boolean, number, string, array, object, unsigned, Items, no_items, item, Members, no_members, member, put}
use Rattle.serde_json.specs.Read.{read}
use Rattle.serde_json.specs.Written.{compact_text}
use Rattle.sync_info.specs.declared.info.Info.{Info}
use Rattle.sync_info.specs.declared.key_record.KeyRecord.{KeyRecord}
use Rattle.sync_info.specs.declared.member.Member.{Member}

-- the value of a kept text
unfoldable pub value_in : List ℕ → Data
value_in json = unwrap_or (read json) null

-- kept members, as members
abbrev pub members_of : List Member → Members
members_of [] = no_members
members_of (m ∷ ms) = member m.name (value_in m.json) (members_of ms)

-- members put among others by their names
abbrev pub put_all : List (List ℕ × Data) → Members → Members
put_all [] others = others
put_all (m ∷ ms) others = put m.0 m.1 (put_all ms others)

abbrev pub setting_json : Data → ℕ → Data
setting_json value updated =
    let members = (codes "updatedTime", number (unsigned updated)) ∷ (codes "value", value) ∷ [] in
    object (put_all members no_members)

-- a record's own members
abbrev pub record_members : KeyRecord → List (List ℕ × Data)
record_members key =
    (codes "content", string key.content)
    ∷ (codes "id", string key.id)
    ∷ (codes "updated_time", number (unsigned key.updated))
    ∷ []

abbrev pub record_json : KeyRecord → Data
record_json key = object (put_all (record_members key) (members_of key.others))

abbrev pub records_json : List KeyRecord → Items
records_json [] = no_items
records_json (key ∷ keys) = item (record_json key) (records_json keys)

-- an info's own members
abbrev pub info_members : Info → List (List ℕ × Data)
info_members info =
    (codes "activeMasterKeyId", setting_json (string info.active.value) info.active.updated)
    ∷ (codes "e2ee", setting_json (boolean info.e2ee.value) info.e2ee.updated)
    ∷ (codes "masterKeys", array (records_json info.keys))
    ∷ (codes "version", number (unsigned info.version))
    ∷ []

abbrev pub info_json : Info → Data
info_json info = object (put_all (info_members info) (members_of info.others))

-- the compact text, whose members stand in the order of their names' bytes
abbrev pub info_text : Info → List ℕ
info_text info = compact_text (info_json info)
