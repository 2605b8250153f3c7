-- Records that are read one after another.
use Rattle.std.proofs.Common.{◌≡◌, ℕ, ◌+◌, ◌<◌, List, [], ◌∷◌, ◌++◌, map, length, take, drop, get_or, Option, Some, None, option_map, refl, sym, ap, ◌∙◌, append_assoc}
use Rattle.std.proofs.lemmas.List.{map-append, take_more, drop_more}
use Rattle.std.specs.List.{find}
use Rattle.serde_json.specs.Data.{Data, Items, item}
use Rattle.serde_json.specs.View.{view, items_view}
use Rattle.serde_json.specs.declared.value.Value.{Value}
use Rattle.sync_info.specs.Info.{has_id}
use Rattle.sync_info.specs.Merge.{later_record, renewed}
use Rattle.sync_info.specs.Read.{before, record_of, records_of}
use Rattle.sync_info.specs.declared.key_record.KeyRecord.{KeyRecord}

-- the items from a place on are its item and those behind it
pub items_from : (items : List Value) (i : ℕ) (v : Value) → i < length items → v ≡ get_or items i v
    → items_view (drop i items) ≡ item (view v) (items_view (drop (i + 1) items))
items_from items i v within is =
    ap items_view (drop_more items i v within ∙ ap (λ x. x ∷ drop (i + 1) items) (sym is))

-- the records behind those that were read
abbrev pub behind : List KeyRecord → Option (List KeyRecord) → Option (List KeyRecord)
behind keys rest = option_map (λ more. keys ++ more) rest

-- one record more is read
pub records_more : (keys : List KeyRecord) (key : KeyRecord) (d : Data) (ds : Items)
    (all : Option (List KeyRecord)) → record_of d ≡ Some key
    → all ≡ behind keys (records_of (item d ds)) → all ≡ behind (keys ++ key ∷ []) (records_of ds)
records_more keys key d ds all is so_far = so_far
    ∙ ap (λ found. behind keys (before found (records_of ds))) is
    ∙ one_more (records_of ds)
  where
    one_more : (rest : Option (List KeyRecord))
        → behind keys (before (Some key) rest) ≡ behind (keys ++ key ∷ []) rest
    one_more None = refl
    one_more (Some more) = ap Some (sym (append_assoc keys (key ∷ []) more))

-- what is no record ends the reading
pub no_record : (keys : List KeyRecord) (d : Data) (ds : Items) (all : Option (List KeyRecord))
    → record_of d ≡ None → all ≡ behind keys (records_of (item d ds)) → all ≡ None
no_record keys d ds all is so_far =
    so_far ∙ ap (λ found. behind keys (before found (records_of ds))) is

-- one record more is the later one
pub renewed-more : (local remote : List KeyRecord) (i : ℕ) (key : KeyRecord) (keys : List KeyRecord)
    → i < length remote → key ≡ get_or remote i key → keys ≡ renewed local (take i remote)
    → keys ++ later_record (find (has_id key.id) local) key ∷ []
    ≡ renewed local (take (i + 1) remote)
renewed-more local remote i key keys within is so_far =
    let later : KeyRecord → KeyRecord = λ k. later_record (find (has_id k.id) local) k in
    ap (λ ks. ks ++ later key ∷ []) so_far
    ∙ sym (map-append later (take i remote) (key ∷ []))
    ∙ ap (map later) (sym (take_more remote i key within ∙ ap (λ k. take i remote ++ k ∷ []) (sym is)))
