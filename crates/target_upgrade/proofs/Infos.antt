-- An info at another version, and one with a key more, are valid.
use Rattle.std.proofs.Common.{◌≡◌, ◌<◌, ◌^◌, ◌∙◌, refl, sym, subst, ℕ, List, [], ◌∷◌, ◌++◌, Bool, true, false, ◌||◌, not, cond, Option, Some, None, option_and_then}
use Rattle.std.specs.Prelude.{bytes_eq, IfSome}
use Rattle.std.specs.Str.{is_utf8}
use Rattle.std.specs.List.{list_any, AllByRecursion}
use Rattle.std.proofs.lemmas.Bool.{and_parts, and_from, false≢true}
use Rattle.std.proofs.lemmas.List.Folds.{list_any-append}
use Rattle.std.proofs.lemmas.Slice.Eq.{bytes_eq-Decides}
use Rattle.sync_info.specs.Info.{has_id, are_distinct, IsKeyRecord, AreKeys, IsInfo}
use Rattle.sync_info.specs.Read.{info_in, info_of}
use Rattle.sync_info.specs.declared.info.Info.{Info}
use Rattle.sync_info.specs.declared.key_record.KeyRecord.{KeyRecord}
use Rattle.target_upgrade.specs.Keys.{with_key}
use Rattle.target_upgrade.specs.Steps.{at_version}

pub at_version-valid : (v : ℕ) (info : Info) → v < 2 ^ 64 → IsInfo info → IsInfo (at_version v info)
at_version-valid v info small h = record {
  version = small;
  e2ee = h.e2ee;
  active = h.active;
  keys =
      h.keys;
  others = h.others;
}

text_if : {T : Type 0} (b : Bool) (o : Option T) (f : T → Option Info) (info : Info) →
    option_and_then f (cond b o None) ≡ Some info → b ≡ true
text_if true o f info h = refl
text_if false o f info h = cc

-- what is read as an info is UTF-8
pub text_of : (bytes : List ℕ) (info : Info) → info_in bytes ≡ Some info → is_utf8 bytes ≡ true
text_of bytes info h =
    text_if (is_utf8 bytes) _ info_of info h

-- ---- one key more

all_more : (keys : List KeyRecord) (key : KeyRecord) → AllByRecursion IsKeyRecord keys → IsKeyRecord
    key → AllByRecursion IsKeyRecord (keys ++ key ∷ [])
all_more [] key h k = (k, tt)
all_more (x ∷ xs) key h k = (h.0, all_more xs key h.1 k)

neither : (a b : Bool) → (a || b) ≡ false → (a ≡ false) × (b ≡ false)
neither false b h = (refl, h)
neither true b h = absurd (false≢true (sym h))

other_way : (k l : KeyRecord) → has_id l.id k ≡ false → has_id k.id l ≡ false
other_way k l h = go (has_id k.id l) refl where
  go : (b : Bool) → bytes_eq l.id k.id ≡ b → b ≡ false
  go false same = refl
  go true same = absurd (false≢true (sym h ∙ (bytes_eq-Decides k.id l.id).1
      (sym ((bytes_eq-Decides l.id k.id).0 same))))

none_yet : (a b : Bool) → not a ≡ true → b ≡ false → not (a || (b || false)) ≡ true
none_yet false false h k = refl
none_yet true b h k = absurd (false≢true h)
none_yet false true h k = absurd (false≢true (sym k))

distinct_more : (keys : List KeyRecord) (key : KeyRecord) → are_distinct keys ≡ true → list_any
    (has_id key.id) keys ≡ false → are_distinct (keys ++ key ∷ []) ≡ true
distinct_more [] key h lacks = refl
distinct_more (k ∷ ks) key h lacks =
    let parts = and_parts (not (list_any (has_id k.id) ks)) (are_distinct ks) h in
    let less = neither (has_id key.id k) (list_any (has_id key.id) ks) lacks in
    and_from _ _ (rw (list_any-append (has_id k.id) ks (key ∷ []))
    (none_yet _ _ parts.0 (other_way k key less.0))) (distinct_more ks key parts.1 less.1)

with_if : (b : Bool) (info : Info) (key : KeyRecord) → list_any (has_id key.id) info.keys ≡ b →
    IsInfo info → IsKeyRecord key → IsInfo (cond b info (record info
    { keys = info.keys ++ key ∷ [] }))
with_if true info key has h k = h
with_if false info key lacks h k = record {
  version = h.version;
  e2ee = h.e2ee;
  active = h.active;
  keys = record {
    records = all_more info.keys key h.keys.records k;
    distinct = distinct_more
        info.keys key h.keys.distinct lacks;
  };
  others = h.others;
}

pub with_key-valid : (key : Option KeyRecord) (info : Info) → IsInfo info → IfSome key IsKeyRecord →
    IsInfo (with_key key info)
with_key-valid None info h k = h
with_key-valid (Some key) info h k = with_if (list_any (has_id key.id) info.keys) info key refl h k

pub key_more-valid : (info : Info) (key : KeyRecord) (keys : List KeyRecord) → IsInfo info →
    IsKeyRecord key → list_any (has_id key.id) info.keys ≡ false → keys ≡ info.keys ++ key ∷ [] →
    IsInfo (record info { keys = keys })
key_more-valid info key keys h k lacks is = record {
  version = h.version;
  e2ee = h.e2ee;
  active = h.active;
  keys = subst AreKeys (sym is) (record {
    records = all_more info.keys key h.keys.records k;
    distinct = distinct_more info.keys key h.keys.distinct lacks;
  });
  others = h.others;
}
