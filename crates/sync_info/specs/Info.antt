-- What an info is. Joplin's specification of synchronisation has the members of `info.json`; the bounds are our own.
use Rattle.std.specs.Prelude.{ℕ, ◌≡◌, ◌<◌, ◌≤◌, ◌^◌, Bool, true, false, ◌&&◌, ◌||◌, not, List, [], ◌∷◌, map, codes, Some}
use Rattle.std.specs.Cmp.Lexicographic.{slice_cmp}
use Rattle.std.specs.List.{list_any, AllByRecursion}
use Rattle.std.specs.List.Sorted.{IsStrictlySortedBy}
use Rattle.std.specs.Ordering.{nat_cmp}
use Rattle.std.specs.Str.{bytes_eq}
use Rattle.jop_base.specs.Id.{IsIdText, is_id}
use Rattle.jop_base.specs.Times.{last_time}
use Rattle.serde_json.specs.Data.{Data, depth}
use Rattle.serde_json.specs.Read.{read}
use Rattle.serde_json.specs.Written.{has_float, compact_text}
use Rattle.sync_info.specs.declared.holder.Holder.{Holder}
use Rattle.sync_info.specs.declared.holder.Holder.TheVariants as holder
use Rattle.sync_info.specs.declared.info.Info.{Info}
use Rattle.sync_info.specs.declared.key_record.KeyRecord.{KeyRecord}
use Rattle.sync_info.specs.declared.member.Member.{Member}
use Rattle.sync_info.specs.declared.timed.Timed.{Timed}

-- the text names a key, or none
abbrev pub is_key_name : List ℕ → Bool
is_key_name [] = true
is_key_name (letter ∷ text) = is_id (letter ∷ text)

-- the record has this id
abbrev pub has_id : List ℕ → KeyRecord → Bool
has_id id key = bytes_eq key.id id

-- no two records have one id
abbrev pub are_distinct : List KeyRecord → Bool
are_distinct [] = true
are_distinct (key ∷ keys) = not (list_any (has_id key.id) keys) && are_distinct keys

-- the members that are read, and so are never among those that are kept
abbrev pub is_own_member : Holder → List ℕ → Bool
is_own_member holder.Info name =
    bytes_eq name (codes "activeMasterKeyId") || bytes_eq name (codes "e2ee")
    || bytes_eq name (codes "masterKeys") || bytes_eq name (codes "version")
is_own_member holder.KeyRecord name =
    bytes_eq name (codes "content") || bytes_eq name (codes "id")
    || bytes_eq name (codes "updated_time")

-- how deep a kept value may nest, if the whole text nests 127 deep at most: a record stands in a list in the info
abbrev pub room : Holder → ℕ
room holder.Info = 126
room holder.KeyRecord = 124

-- the text is compact JSON, of whole numbers alone, that nests no deeper than the limit
pub record IsCompact (limit : ℕ) (json : List ℕ) : Type 0 where
  pub value : Data
  pub reads : read json ≡ Some value
  pub compact : compact_text value ≡ json
  pub whole : has_float value ≡ false
  pub shallow : depth value ≤ limit

-- members that an info or a record keeps: each name once, in the order of their bytes
pub record AreKeptMembers (of : Holder) (others : List Member) : Type 0 where
  pub foreign : AllByRecursion (λ m. is_own_member of m.name ≡ false) others
  pub sorted : IsStrictlySortedBy (slice_cmp nat_cmp) (map (λ m. m.name) others)
  pub compact : AllByRecursion (λ m. IsCompact (room of) m.json) others

pub record IsKeyRecord (key : KeyRecord) : Type 0 where
  pub id : IsIdText key.id
  pub updated : key.updated ≤ last_time
  pub others : AreKeptMembers holder.KeyRecord key.others

-- records of which no two have one id
pub record AreKeys (keys : List KeyRecord) : Type 0 where
  pub records : AllByRecursion IsKeyRecord keys
  pub distinct : are_distinct keys ≡ true

-- the choice of a key: its id or none, and when it was made
pub record IsActive (active : Timed (List ℕ)) : Type 0 where
  pub name : is_key_name active.value ≡ true
  pub updated : active.updated ≤ last_time

-- an info that some text holds
pub record IsInfo (info : Info) : Type 0 where
  pub version : info.version < 2 ^ 64
  pub e2ee : info.e2ee.updated ≤ last_time
  pub active : IsActive info.active
  pub keys : AreKeys info.keys
  pub others : AreKeptMembers holder.Info info.others

-- the info of a target that holds nothing yet
abbrev pub new_info : ℕ → Info
new_info version =
    record {
      version = version;
      e2ee = record { value = false; updated = 0 };
      active = record { value = []; updated = 0 };
      keys = [];
      others = [];
    }
