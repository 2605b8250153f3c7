-- What a text holds is a valid info, and the text of a valid info holds that info.
use Rattle.std.proofs.Common.{◌≡◌, ℕ, ◌<◌, ◌≤◌, ◌^◌, suc, List, [], ◌∷◌, map, Bool, true, false, not, cond, nat_le, Less, Option, Some, None, IfSome, option_and_then, codes, refl, sym, ap, ◌∙◌, subst, arith}
use Rattle.std.proofs.lemmas.Bool.{leb-true, cond_both, not-true, or_parts}
use Rattle.std.specs.Cmp.Lexicographic.{slice_cmp}
use Rattle.std.specs.List.{AllByRecursion}
use Rattle.std.specs.List.Sorted.{IsStrictlySortedBy}
use Rattle.std.specs.Option.{option_map_or}
use Rattle.std.specs.Ordering.{nat_cmp}
use Rattle.std.specs.Str.{IsUtf8, is_utf8}
use Rattle.jop_base.proofs.IdLaws.{IsIdText-from_is_id}
use Rattle.jop_base.specs.Id.{IsIdText, is_id}
use Rattle.jop_base.specs.Times.{last_time}
use Rattle.serde_json.specs.Data.{unsigned, negative, float, Data, null, boolean, number, string, array, object, Items, no_items, item, Members, no_members, member, depth, items_depth, members_depth}
use Rattle.serde_json.specs.Find.{get, as_bool, as_str}
use Rattle.serde_json.specs.Read.{max_depth, read}
use Rattle.serde_json.specs.Written.{has_float, items_have_float, members_have_float, compact_text}
use Rattle.serde_json.proofs.Nesting.{depth-read}
use Rattle.sync_info.specs.Info.{is_key_name, is_own_member, are_distinct, room, AreKeptMembers, AreKeys, IsActive, IsCompact, IsInfo, IsKeyRecord}
use Rattle.sync_info.specs.Json.{members_of, put_all, setting_json, record_members, records_json, info_members, info_json, info_text}
use Rattle.sync_info.specs.Read.{option_filter, count_of, time_of, json_id, key_name_of, setting, id_in, content_in, updated_in, kept_of, kept_in, e2ee_of, e2ee_in, active_of, active_in, key_record, record_of, before, records_of, keys_of, keys_in, version_in, info, info_of, whole_value, info_in}
use Rattle.sync_info.specs.declared.holder.Holder.{Holder}
use Rattle.sync_info.specs.declared.holder.Holder.TheVariants as holder
use Rattle.sync_info.specs.declared.info.Info.{Info}
use Rattle.sync_info.specs.declared.key_record.KeyRecord.{KeyRecord}
use Rattle.sync_info.specs.declared.member.Member.{Member}
use Rattle.sync_info.specs.declared.timed.Timed.{Timed}
use Rattle.sync_info.proofs.Compact.{read-compact_text}
use Rattle.sync_info.proofs.InfoLemmas.{whole-info_json, depth-info_json, info_of-info_json}
use Rattle.sync_info.proofs.KeptLemmas.{AreKept-nil, foreign-kept_of, sorted-kept_of}
use Rattle.sync_info.proofs.JsonLemmas.{value_in-read}
use Rattle.sync_info.proofs.MemberLemmas.{whole-get, depth-get, sound-get}
use Rattle.sync_info.proofs.Sound.{names, IsSound, AreSoundItems, AreSoundMembers, sound-put, sound-read}
use Rattle.sync_info.proofs.TextLemmas.{whole_value-read}

-- ---- what holds of each value that may be found

if_found : {A B : Type 0} (Q : B → Type 0) (f : A → Option B) (o : Option A)
    → ((a : A) → o ≡ Some a → IfSome (f a) Q)
    → IfSome (option_and_then f o) Q
if_found Q f None each = tt
if_found Q f (Some a) each = each a refl

if_found_or : {A B : Type 0} (Q : B → Type 0) (f : A → Option B) (o : Option A) (other : Option B)
    → ((a : A) → o ≡ Some a → IfSome (f a) Q) → IfSome other Q → IfSome (option_map_or f o other) Q
if_found_or Q f None other each rest = rest
if_found_or Q f (Some a) other each rest = each a refl

if_passes : {A : Type 0} (P Q : A → Type 0) (test : A → Bool)
    → ((a : A) → P a → test a ≡ true → Q a) → (o : Option A)
    → IfSome o P → IfSome (option_filter test o) Q
if_passes P Q test each None h = tt
if_passes P Q test each (Some a) h = by (test a) refl
  where
    by : (b : Bool) → test a ≡ b → IfSome (cond b (Some a) None) Q
    by true pass = each a h pass
    by false fails = tt

any : {A : Type 0} (o : Option A) → IfSome o (λ a. Unit {0})
any None = tt
any (Some a) = tt

-- ---- settings

abbrev Fits : ℕ → Type 0
Fits t = t ≤ last_time

time_fits : (d : Data) → IfSome (time_of d) Fits
time_fits d =
    if_passes (λ t. Unit {0}) Fits (λ t. nat_le t last_time) (λ t h e. leb-true t last_time e)
    (count_of d) (any (count_of d))

if_setting : {T : Type 0} (P : Timed T → Type 0) (value : Option T) (updated : Option ℕ)
    → ((v : T) (t : ℕ) → value ≡ Some v → Fits t → P (record { value = v; updated = t }))
    → IfSome updated Fits
    → IfSome (setting value updated) P
if_setting P None updated each h = tt
if_setting P (Some v) None each h = tt
if_setting P (Some v) (Some t) each h = each v t refl h

updated_fits : (d : Data) → IfSome (option_and_then time_of (get (codes "updatedTime") d)) Fits
updated_fits d = if_found Fits time_of (get (codes "updatedTime") d) (λ a e. time_fits a)

e2ee_fits : (d : Data) → IfSome (e2ee_in d) (λ s. Fits s.updated)
e2ee_fits d =
    if_found_or (λ s. Fits s.updated) e2ee_of (get (codes "e2ee") d)
    (Some (record { value = false; updated = 0 }))
    (λ e is. if_setting (λ s. Fits s.updated) (option_and_then as_bool (get (codes "value") e)) _
    (λ v t found fit. fit) (updated_fits e))
    (omega arith)

abbrev IsName : List ℕ → Type 0
IsName text = is_key_name text ≡ true

name_from : (o : Option (List ℕ)) (text : List ℕ) → IfSome o IsName → o ≡ Some text → IsName text
name_from o text h is = let P : Option (List ℕ) → Type 0 = λ o. IfSome o IsName in subst P is h

active_valid : (d : Data) → IfSome (active_in d) IsActive
active_valid d =
    if_found_or IsActive active_of (get (codes "activeMasterKeyId") d)
    (Some (record { value = []; updated = 0 }))
    (λ a is.
    let name : Option (List ℕ) = option_and_then key_name_of (get (codes "value") a) in
    let named = if_found IsName key_name_of (get (codes "value") a)
    (λ v found. if_passes (λ x. Unit {0}) IsName is_key_name (λ x h e. e) (as_str v)
    (any (as_str v))) in
    if_setting IsActive name _
    (λ v t found fit. record { name = name_from name v named found; updated = fit })
    (updated_fits a))
    (record { name = refl; updated = omega arith })

-- ---- members that are kept

room_fits : (of : Holder) → room of ≤ max_depth
room_fits holder.Info = omega arith
room_fits holder.KeyRecord = omega arith

compact-kept_of : (of : Holder) (ms : Members) → AreSoundMembers ms → members_have_float ms ≡ false
    → members_depth ms ≤ room of → AllByRecursion (λ m. IsCompact (room of) m.json) (kept_of of ms)
compact-kept_of of no_members sound whole shallow = tt
compact-kept_of of (member k d ms) sound whole shallow =
    let parts = or_parts (has_float d) _ whole in
    let within = room_fits of in
    let here : IsCompact (room of) (compact_text d) = record {
      value = d;
      reads = read-compact_text d sound.0 parts.0 (omega arith);
      compact = refl;
      whole = parts.0;
      shallow = omega arith;
    } in
    let rest = compact-kept_of of ms sound.2 parts.1 (omega arith) in
    cond_both (is_own_member of k) _ _ (AllByRecursion (λ m. IsCompact (room of) m.json))
    (λ own. rest)
    (λ foreign. (here, rest))

kept_valid : (of : Holder) (d : Data) → IsSound d → has_float d ≡ false → depth d ≤ suc (room of)
    → AreKeptMembers of (kept_in of d)
kept_valid of null sound whole shallow = AreKept-nil of
kept_valid of (boolean b) sound whole shallow = AreKept-nil of
kept_valid of (number n) sound whole shallow = AreKept-nil of
kept_valid of (string s) sound whole shallow = AreKept-nil of
kept_valid of (array ds) sound whole shallow = AreKept-nil of
kept_valid of (object ms) sound whole shallow = record {
  foreign = foreign-kept_of of ms;
  sorted = sorted-kept_of of ms sound;
  compact = compact-kept_of of ms sound whole (omega arith);
}

-- ---- keys

id_valid : (d : Data) → IfSome (id_in d) IsIdText
id_valid d =
    if_found IsIdText json_id (get (codes "id") d)
    (λ v found. if_passes (λ x. Unit {0}) IsIdText is_id (λ x h e. IsIdText-from_is_id x e)
    (as_str v) (any (as_str v)))

record_fits : (d : Data) → IfSome (updated_in d) Fits
record_fits d =
    if_found_or Fits time_of (get (codes "updated_time") d) (Some 0) (λ v found. time_fits v)
    (omega arith)

if_record : (id content : Option (List ℕ)) (updated : Option ℕ) (others : List Member)
    → IfSome id IsIdText → IfSome updated Fits
    → AreKeptMembers holder.KeyRecord others
    → IfSome (key_record id content updated others) IsKeyRecord
if_record None content updated others own fit kept = tt
if_record (Some id) None updated others own fit kept = tt
if_record (Some id) (Some content) None others own fit kept = tt
if_record (Some id) (Some content) (Some updated) others own fit kept =
    record { id = own; updated = fit; others = kept }

record_valid : (d : Data) → IsSound d → has_float d ≡ false → depth d ≤ 125
    → IfSome (record_of d) IsKeyRecord
record_valid d sound whole shallow =
    if_record (id_in d) (content_in d) (updated_in d) (kept_in holder.KeyRecord d) (id_valid d)
    (record_fits d)
    (kept_valid holder.KeyRecord d sound whole shallow)

if_before : (key : Option KeyRecord) (keys : Option (List KeyRecord)) → IfSome key IsKeyRecord
    → IfSome keys (AllByRecursion IsKeyRecord)
    → IfSome (before key keys) (AllByRecursion IsKeyRecord)
if_before None keys here rest = tt
if_before (Some key) None here rest = tt
if_before (Some key) (Some keys) here rest = (here, rest)

records_valid : (ds : Items) → AreSoundItems ds → items_have_float ds ≡ false → items_depth ds ≤ 125
    → IfSome (records_of ds) (AllByRecursion IsKeyRecord)
records_valid no_items sound whole shallow = tt
records_valid (item d ds) sound whole shallow =
    let parts = or_parts (has_float d) _ whole in
    if_before (record_of d) (records_of ds) (record_valid d sound.0 parts.0 (omega arith))
    (records_valid ds sound.1 parts.1 (omega arith))

keys_of_valid : (d : Data) → IsSound d → has_float d ≡ false → depth d ≤ 126
    → IfSome (keys_of d) AreKeys
keys_of_valid null sound whole shallow = tt
keys_of_valid (boolean b) sound whole shallow = tt
keys_of_valid (number n) sound whole shallow = tt
keys_of_valid (string s) sound whole shallow = tt
keys_of_valid (object ms) sound whole shallow = tt
keys_of_valid (array ds) sound whole shallow =
    if_passes (AllByRecursion IsKeyRecord) AreKeys are_distinct
    (λ keys each distinct. record { records = each; distinct = distinct })
    (records_of ds) (records_valid ds sound whole (omega arith))

keys_valid : (d : Data) → IsSound d → has_float d ≡ false → depth d ≤ max_depth
    → IfSome (keys_in d) AreKeys
keys_valid d sound whole shallow =
    if_found_or AreKeys keys_of (get (codes "masterKeys") d) (Some [])
    (λ keys found.
    let deeper = depth-get (codes "masterKeys") d keys found in
    keys_of_valid keys (sound-get (codes "masterKeys") d keys sound found)
    (whole-get (codes "masterKeys") d keys whole found) (omega arith))
    (record { records = tt; distinct = refl })

-- ---- the whole

count_fits : (d : Data) → IsSound d → IfSome (count_of d) (λ n. n < 2 ^ 64)
count_fits null sound = tt
count_fits (boolean b) sound = tt
count_fits (number (unsigned n)) sound = sound
count_fits (number (negative z)) sound = tt
count_fits (number (float x)) sound = tt
count_fits (string s) sound = tt
count_fits (array ds) sound = tt
count_fits (object ms) sound = tt

version_fits : (d : Data) → IsSound d → IfSome (version_in d) (λ n. n < 2 ^ 64)
version_fits d sound =
    if_found (λ n. n < 2 ^ 64) count_of (get (codes "version") d)
    (λ v found. count_fits v (sound-get (codes "version") d v sound found))

if_info : (version : Option ℕ) (e2ee : Option (Timed Bool)) (active : Option (Timed (List ℕ)))
    (keys : Option (List KeyRecord)) (others : List Member)
    → IfSome version (λ n. n < 2 ^ 64) → IfSome e2ee (λ s. Fits s.updated) → IfSome active IsActive
    → IfSome keys AreKeys
    → AreKeptMembers holder.Info others → IfSome (info version e2ee active keys others) IsInfo
if_info None e2ee active keys others a b d e kept = tt
if_info (Some version) None active keys others a b d e kept = tt
if_info (Some version) (Some e2ee) None keys others a b d e kept = tt
if_info (Some version) (Some e2ee) (Some active) None others a b d e kept = tt
if_info (Some version) (Some e2ee) (Some active) (Some keys) others a b d e kept =
    record { version = a; e2ee = b; active = d; keys = e; others = kept }

info_valid : (d : Data) → IsSound d → has_float d ≡ false → depth d ≤ max_depth
    → IfSome (info_of d) IsInfo
info_valid d sound whole shallow =
    if_info (version_in d) (e2ee_in d) (active_in d) (keys_in d) (kept_in holder.Info d)
    (version_fits d sound) (e2ee_fits d)
    (active_valid d) (keys_valid d sound whole shallow)
    (kept_valid holder.Info d sound whole shallow)

whole_from : (text : Bool) (o : Option Data) (d : Data)
    → cond text (option_filter (λ d. not (has_float d)) o) None ≡ Some d
    → (o ≡ Some d) × (has_float d ≡ false)
whole_from false o d is = absurd (cc)
whole_from true None d is = absurd (cc)
whole_from true (Some e) d is = by (not (has_float e)) refl is
  where
    by : (b : Bool) → not (has_float e) ≡ b → cond b (Some e) None ≡ Some d
        → (Some e ≡ Some d) × (has_float d ≡ false)
    by true whole same =
        let one : e ≡ d = cc in
        let P : Data → Type 0 = λ x. has_float x ≡ false in
        (same, subst P one (not-true _ whole))
    by false floats same = absurd (cc)

pub IsInfo-info_in : (text : List ℕ) (i : Info) → info_in text ≡ Some i → IsInfo i
IsInfo-info_in text i is =
    let P : Option Info → Type 0 = λ o. IfSome o IsInfo in
    subst P is
    (if_found IsInfo info_of (whole_value text)
    (λ d found.
    let parts = whole_from (is_utf8 text) (read text) d found in
    info_valid d (sound-read text d parts.0) parts.1 (depth-read text d parts.0)))

-- ---- the text of a valid info

sound-put_all : (own : List (List ℕ × Data)) (ms : Members) → AllByRecursion (λ m. IsSound m.1) own
    → AreSoundMembers ms
    → AreSoundMembers (put_all own ms)
sound-put_all [] ms each rest = rest
sound-put_all (m ∷ own) ms each rest =
    sound-put m.0 m.1 (put_all own ms) each.0 (sound-put_all own ms each.1 rest)

names-members_of : (ms : List Member) → names (members_of ms) ≡ map (λ m. m.name) ms
names-members_of [] = refl
names-members_of (m ∷ ms) = ap (λ ns. m.name ∷ ns) (names-members_of ms)

sound-members_of : (limit : ℕ) (ms : List Member)
    → IsStrictlySortedBy (slice_cmp nat_cmp) (map (λ m. m.name) ms)
    → AllByRecursion (λ m. IsCompact limit m.json) ms → AreSoundMembers (members_of ms)
unfolding IsStrictlySortedBy
sound-members_of limit [] sorted compact = tt
sound-members_of limit (m ∷ ms) sorted compact =
    let value = value_in-read m.json compact.0.value compact.0.reads in
    let P : List (List ℕ) → Type 0 = AllByRecursion (λ l. slice_cmp nat_cmp m.name l ≡ Less) in (
      subst IsSound value (sound-read m.json compact.0.value compact.0.reads),
      subst P (sym (names-members_of ms)) sorted.0,
      sound-members_of limit ms sorted.1 compact.1,
    )

sound-kept : (of : Holder) (ms : List Member) → AreKeptMembers of ms
    → AreSoundMembers (members_of ms)
sound-kept of ms kept = sound-members_of (room of) ms kept.sorted kept.compact

sound-setting_json : (value : Data) (updated : ℕ) → IsSound value → Fits updated
    → IsSound (setting_json value updated)
sound-setting_json value updated sound fit =
    sound-put_all
    ((codes "updatedTime", number (unsigned updated)) ∷ (codes "value", value) ∷ []) no_members
    (omega arith, (sound, tt)) tt

sound-records_json : (ks : List KeyRecord) → AllByRecursion IsKeyRecord ks
    → AreSoundItems (records_json ks)
sound-records_json [] valid = tt
sound-records_json (k ∷ ks) valid =
    let fit = valid.0.updated in (
      sound-put_all (record_members k) (members_of k.others) (tt, (tt, (omega arith, tt)))
          (sound-kept holder.KeyRecord k.others valid.0.others),
      sound-records_json ks valid.1,
    )

sound-info_json : (i : Info) → IsInfo i → IsSound (info_json i)
sound-info_json i valid =
    let active =
    sound-setting_json (string i.active.value) i.active.updated tt valid.active.updated in
    let e2ee = sound-setting_json (boolean i.e2ee.value) i.e2ee.updated tt valid.e2ee in
    let keys = sound-records_json i.keys valid.keys.records in
    sound-put_all (info_members i) (members_of i.others)
    (active, (e2ee, (keys, (valid.version, tt)))) (sound-kept holder.Info i.others valid.others)

pub info_in-info_text : (i : Info) → IsInfo i → IsUtf8 (info_text i)
    → info_in (info_text i) ≡ Some i
info_in-info_text i valid utf8 =
    let whole = whole-info_json i valid in
    let reads = read-compact_text (info_json i) (sound-info_json i valid) whole
    (depth-info_json i valid) in
    ap (option_and_then info_of) (whole_value-read (info_text i) (info_json i) utf8 reads whole)
    ∙ info_of-info_json i valid
