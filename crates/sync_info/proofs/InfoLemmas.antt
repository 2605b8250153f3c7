-- The JSON of a valid info has no float, nests no deeper than is read, and is that info.
use Rattle.std.proofs.Common.{◌≡◌, ℕ, ◌≤◌, List, [], ◌∷◌, Bool, false, Some, option_and_then, codes, refl, ap, ap₂, ◌∙◌, arith}
use Rattle.std.proofs.lemmas.Bool.{or_from, cond-true, le-leb}
use Rattle.std.specs.List.{AllByRecursion}
use Rattle.std.specs.Option.{option_map_or}
use Rattle.jop_base.proofs.IdLaws.{is_id-from_IsIdText}
use Rattle.jop_base.specs.Id.{is_id}
use Rattle.jop_base.specs.Times.{last_time}
use Rattle.serde_json.specs.Data.{Data, boolean, number, string, array, unsigned, depth, items_depth}
use Rattle.serde_json.specs.Find.{get, as_str}
use Rattle.serde_json.specs.Read.{max_depth}
use Rattle.serde_json.specs.Written.{has_float, items_have_float}
use Rattle.sync_info.specs.Info.{is_key_name, are_distinct, room, IsKeyRecord, AreKeys, IsActive, IsInfo}
use Rattle.sync_info.specs.Json.{members_of, setting_json, record_members, record_json, records_json, info_members, info_json}
use Rattle.sync_info.specs.Read.{option_filter, count_of, time_of, json_id, setting, e2ee_of, active_of, kept_in, record_of, before, records_of, keys_of, info_of, id_in, content_in, updated_in, version_in, e2ee_in, active_in, keys_in}
use Rattle.sync_info.specs.declared.holder.Holder.TheVariants as holder
use Rattle.sync_info.specs.declared.info.Info.{Info}
use Rattle.sync_info.specs.declared.key_record.KeyRecord.{KeyRecord}
use Rattle.sync_info.specs.declared.timed.Timed.{Timed}
use Rattle.sync_info.proofs.JsonLemmas.{whole-members_of, depth-members_of, kept_of-members_of, kept_of-put_all}
use Rattle.sync_info.proofs.MemberLemmas.{whole-put_all, depth-put_all, named, get_member-put_all}

-- ---- times and ids

time_of-number : (t : ℕ) → t ≤ last_time → time_of (number (unsigned t)) ≡ Some t
time_of-number t within = cond-true _ _ _ (le-leb t last_time within)

-- ---- a record

module _ (k : KeyRecord) (valid : IsKeyRecord k) where
  pub whole-record_json : has_float (record_json k) ≡ false
  whole-record_json =
      whole-put_all (record_members k) (members_of k.others) (refl, (refl, (refl, tt)))
      (whole-members_of (room holder.KeyRecord) k.others valid.others.compact)

  pub depth-record_json : depth (record_json k) ≤ 125
  depth-record_json =
      let inside =
      depth-put_all (record_members k) (members_of k.others) 124
      (omega arith, (omega arith, (omega arith, tt)))
      (depth-members_of 124 k.others valid.others.compact) in
      omega arith

  found : (name : List ℕ) (d : Data) → named name (record_members k) ≡ Some d
      → get name (record_json k) ≡ Some d
  found name d is = get_member-put_all name (record_members k) (members_of k.others) d is

  id-record_json : id_in (record_json k) ≡ Some k.id
  id-record_json = ap (option_and_then json_id) (found (codes "id") (string k.id) refl)
      ∙ cond-true (is_id k.id) _ _ (is_id-from_IsIdText k.id valid.id)

  content-record_json : content_in (record_json k) ≡ Some k.content
  content-record_json =
      ap (option_and_then as_str) (found (codes "content") (string k.content) refl)

  updated-record_json : updated_in (record_json k) ≡ Some k.updated
  updated-record_json =
      ap (λ found. option_map_or time_of found (Some 0))
      (found (codes "updated_time") (number (unsigned k.updated)) refl)
      ∙ time_of-number k.updated valid.updated

  kept-record_json : kept_in holder.KeyRecord (record_json k) ≡ k.others
  kept-record_json =
      kept_of-put_all holder.KeyRecord (record_members k) (members_of k.others) refl
      ∙ kept_of-members_of holder.KeyRecord
      (room holder.KeyRecord) k.others valid.others.foreign valid.others.compact

  pub record_of-record_json : record_of (record_json k) ≡ Some k
  record_of-record_json =
      rw (id-record_json, content-record_json, updated-record_json, kept-record_json) refl

-- ---- records

pub whole-records_json : (ks : List KeyRecord) → AllByRecursion IsKeyRecord ks
    → items_have_float (records_json ks) ≡ false
whole-records_json [] valid = refl
whole-records_json (k ∷ ks) valid =
    or_from (has_float (record_json k)) _ (whole-record_json k valid.0)
    (whole-records_json ks valid.1)

pub depth-records_json : (ks : List KeyRecord) → AllByRecursion IsKeyRecord ks
    → items_depth (records_json ks) ≤ 125
depth-records_json [] valid = omega arith
depth-records_json (k ∷ ks) valid =
    let here = depth-record_json k valid.0 in
    let rest = depth-records_json ks valid.1 in
    omega arith

records_of-records_json : (ks : List KeyRecord) → AllByRecursion IsKeyRecord ks
    → records_of (records_json ks) ≡ Some ks
records_of-records_json [] valid = refl
records_of-records_json (k ∷ ks) valid =
    ap₂ before (record_of-record_json k valid.0) (records_of-records_json ks valid.1)

keys_of-records_json : (ks : List KeyRecord) → AreKeys ks
    → keys_of (array (records_json ks)) ≡ Some ks
keys_of-records_json ks valid =
    ap (option_filter are_distinct) (records_of-records_json ks valid.records)
    ∙ cond-true (are_distinct ks) _ _ valid.distinct

-- ---- settings

e2ee_of-setting_json : (s : Timed Bool) → s.updated ≤ last_time
    → e2ee_of (setting_json (boolean s.value) s.updated) ≡ Some s
e2ee_of-setting_json s within = ap (setting (Some s.value)) (time_of-number s.updated within)

active_of-setting_json : (s : Timed (List ℕ)) → IsActive s
    → active_of (setting_json (string s.value) s.updated) ≡ Some s
active_of-setting_json s valid =
    ap₂ setting (cond-true (is_key_name s.value) _ _ valid.name)
    (time_of-number s.updated valid.updated)

-- ---- an info

module _ (i : Info) (valid : IsInfo i) where
  pub whole-info_json : has_float (info_json i) ≡ false
  whole-info_json =
      whole-put_all (info_members i) (members_of i.others)
      (refl, (refl, (whole-records_json i.keys valid.keys.records, (refl, tt))))
      (whole-members_of (room holder.Info) i.others valid.others.compact)

  pub depth-info_json : depth (info_json i) ≤ max_depth
  depth-info_json =
      let keys = depth-records_json i.keys valid.keys.records in
      let inside =
      depth-put_all (info_members i) (members_of i.others) 126
      (omega arith, (omega arith, (omega arith, (omega arith, tt))))
      (depth-members_of 126 i.others valid.others.compact) in
      omega arith

  member_found : (name : List ℕ) (d : Data) → named name (info_members i) ≡ Some d
      → get name (info_json i) ≡ Some d
  member_found name d is = get_member-put_all name (info_members i) (members_of i.others) d is

  version-info_json : version_in (info_json i) ≡ Some i.version
  version-info_json =
      ap (option_and_then count_of)
      (member_found (codes "version") (number (unsigned i.version)) refl)

  e2ee-info_json : e2ee_in (info_json i) ≡ Some i.e2ee
  e2ee-info_json =
      ap (λ found. option_map_or e2ee_of found (Some (record { value = false; updated = 0 })))
      (member_found (codes "e2ee") (setting_json (boolean i.e2ee.value) i.e2ee.updated) refl)
      ∙ e2ee_of-setting_json i.e2ee valid.e2ee

  active-info_json : active_in (info_json i) ≡ Some i.active
  active-info_json =
      ap (λ found. option_map_or active_of found (Some (record { value = []; updated = 0 })))
      (member_found (codes "activeMasterKeyId")
      (setting_json (string i.active.value) i.active.updated) refl)
      ∙ active_of-setting_json i.active valid.active

  keys-info_json : keys_in (info_json i) ≡ Some i.keys
  keys-info_json =
      ap (λ found. option_map_or keys_of found (Some []))
      (member_found (codes "masterKeys") (array (records_json i.keys)) refl)
      ∙ keys_of-records_json i.keys valid.keys

  kept-info_json : kept_in holder.Info (info_json i) ≡ i.others
  kept-info_json =
      kept_of-put_all holder.Info (info_members i) (members_of i.others) refl
      ∙ kept_of-members_of holder.Info
      (room holder.Info) i.others valid.others.foreign valid.others.compact

  pub info_of-info_json : info_of (info_json i) ≡ Some i
  info_of-info_json =
      rw (version-info_json, e2ee-info_json, active-info_json, keys-info_json, kept-info_json) refl
