-- An info with a key that is active is valid.
use Rattle.std.proofs.Common.{◌≡◌, ◌≤◌, ◌∙◌, refl, sym, subst, ℕ, List, [], ◌∷◌, ◌++◌, Bool, true, false, not, ◌||◌, if◌then◌else◌}
use Rattle.std.specs.List.{AllByRecursion, list_any}
use Rattle.std.proofs.lemmas.Bool.{and_parts, and_from, or_parts, or_from, not-true, not_from_false, false_from_ne_true, false≢true}
use Rattle.std.proofs.lemmas.List.Folds.{list_any-append}
use Rattle.std.proofs.lemmas.Slice.Eq.{bytes_eq-Decides}
use Rattle.jop_base.proofs.IdLaws.{is_id-from_IsIdText}
use Rattle.jop_base.specs.Id.{IsIdText}
use Rattle.jop_base.specs.Times.{last_time}
use Rattle.new_keys.specs.Infos.{other_keys, with_active_key, with_new_key}
use Rattle.sync_info.specs.Info.{AreKeys, IsInfo, IsKeyRecord, are_distinct, has_id, is_key_name}
use Rattle.sync_info.specs.declared.info.Info.{Info}
use Rattle.sync_info.specs.declared.key_record.KeyRecord.{KeyRecord}

-- ---- the records of other ids

all_others : (id : List ℕ) (keys : List KeyRecord) → AllByRecursion IsKeyRecord keys
    → AllByRecursion IsKeyRecord (other_keys id keys)
all_others id [] each = tt
all_others id (k ∷ ks) each = by (has_id id k) (all_others id ks each.1) where
  by : (b : Bool) → AllByRecursion IsKeyRecord (other_keys id ks)
      → AllByRecursion IsKeyRecord ((if b then [] else k ∷ []) ++ other_keys id ks)
  by true rest = rest
  by false rest = (each.0, rest)

others_lack : (id : List ℕ) (keys : List KeyRecord) → list_any (has_id id) (other_keys id keys) ≡ false
others_lack id [] = refl
others_lack id (k ∷ ks) = by (has_id id k) refl (others_lack id ks) where
  by : (b : Bool) → has_id id k ≡ b → list_any (has_id id) (other_keys id ks) ≡ false
      → list_any (has_id id) ((if b then [] else k ∷ []) ++ other_keys id ks) ≡ false
  by true is rest = rest
  by false is rest = or_from _ _ is rest

still_lack : (id own : List ℕ) (keys : List KeyRecord) → list_any (has_id own) keys ≡ false
    → list_any (has_id own) (other_keys id keys) ≡ false
still_lack id own [] none = refl
still_lack id own (k ∷ ks) none =
    let parts = or_parts (has_id own k) (list_any (has_id own) ks) none in
    by (has_id id k) parts.0 (still_lack id own ks parts.1)
  where
    by : (b : Bool) → has_id own k ≡ false → list_any (has_id own) (other_keys id ks) ≡ false
        → list_any (has_id own) ((if b then [] else k ∷ []) ++ other_keys id ks) ≡ false
    by true first rest = rest
    by false first rest = or_from _ _ first rest

distinct_others : (id : List ℕ) (keys : List KeyRecord) → are_distinct keys ≡ true
    → are_distinct (other_keys id keys) ≡ true
distinct_others id [] distinct = refl
distinct_others id (k ∷ ks) distinct =
    let parts = and_parts (not (list_any (has_id k.id) ks)) (are_distinct ks) distinct in
    by (has_id id k) parts.0 (distinct_others id ks parts.1)
  where
    by : (b : Bool) → not (list_any (has_id k.id) ks) ≡ true → are_distinct (other_keys id ks) ≡ true
        → are_distinct ((if b then [] else k ∷ []) ++ other_keys id ks) ≡ true
    by true first rest = rest
    by false first rest =
        and_from _ _ (not_from_false _ (still_lack id k.id ks (not-true _ first))) rest

-- ---- one key more

all_behind : (keys : List KeyRecord) (key : KeyRecord) → AllByRecursion IsKeyRecord keys → IsKeyRecord key
    → AllByRecursion IsKeyRecord (keys ++ key ∷ [])
all_behind [] key each valid = (valid, tt)
all_behind (k ∷ ks) key each valid = (each.0, all_behind ks key each.1 valid)

other_way : (k l : KeyRecord) → has_id l.id k ≡ false → has_id k.id l ≡ false
other_way k l other =
    false_from_ne_true _
    (λ same. false≢true (sym other ∙ (bytes_eq-Decides k.id l.id).1 (sym ((bytes_eq-Decides l.id k.id).0 same))))

distinct_behind : (keys : List KeyRecord) (key : KeyRecord) → are_distinct keys ≡ true
    → list_any (has_id key.id) keys ≡ false → are_distinct (keys ++ key ∷ []) ≡ true
distinct_behind [] key distinct lack = refl
distinct_behind (k ∷ ks) key distinct lack =
    let parts = and_parts (not (list_any (has_id k.id) ks)) (are_distinct ks) distinct in
    let less = or_parts (has_id key.id k) (list_any (has_id key.id) ks) lack in
    let one : list_any (has_id k.id) (key ∷ []) ≡ false = or_from _ _ (other_way k key less.0) refl in
    let none : list_any (has_id k.id) (ks ++ key ∷ []) ≡ false =
    list_any-append (has_id k.id) ks (key ∷ []) ∙ or_from _ _ (not-true _ parts.0) one in
    and_from _ _ (not_from_false _ none) (distinct_behind ks key parts.1 less.1)

keys_more : (keys : List KeyRecord) (key : KeyRecord) → AreKeys keys → IsKeyRecord key
    → AreKeys (other_keys key.id keys ++ key ∷ [])
keys_more keys key are valid = record {
  records = all_behind (other_keys key.id keys) key (all_others key.id keys are.records) valid;
  distinct = distinct_behind (other_keys key.id keys) key (distinct_others key.id keys are.distinct)
      (others_lack key.id keys);
}

-- ---- the info

names_key : (id : List ℕ) → IsIdText id → is_key_name id ≡ true
names_key [] is = refl
names_key (digit ∷ id) is = is_id-from_IsIdText (digit ∷ id) is

pub active_valid : (info : Info) (id : List ℕ) (now : ℕ) → IsInfo info → IsIdText id → now ≤ last_time
    → IsInfo (with_active_key info id now)
active_valid info id now valid is time = record {
  version = valid.version;
  e2ee = time;
  active = record { name = names_key id is; updated = time };
  keys = valid.keys;
  others = valid.others;
}

pub new_valid : (info : Info) (key : KeyRecord) (now : ℕ) → IsInfo info → IsKeyRecord key → now ≤ last_time
    → IsInfo (with_new_key info key now)
new_valid info key now valid is time = record {
  version = valid.version;
  e2ee = time;
  active = record { name = names_key key.id is.id; updated = time };
  keys = keys_more info.keys key valid.keys is;
  others = valid.others;
}
