-- The records that are readable.
use Rattle.std.proofs.Common.{◌≡◌, ℕ, ◌+◌, ◌<◌, ◌≤◌, true, List, [], ◌∷◌, ◌++◌, length, take, get_or, Option, Some, None, refl, sym, ap, ◌∙◌}
use Rattle.std.specs.List.{AllByRecursion}
use Rattle.std.proofs.lemmas.List.{take_all}
use Rattle.jed_format.proofs.Lists.{take_next}
use Rattle.jed_format.specs.Chunk.{is_chunk}
use Rattle.master_keys.specs.Rings.{before_keys, locked_key, locked_keys}
use Rattle.master_keys.specs.declared.locked_key.LockedKey.{LockedKey}
use Rattle.sync_info.specs.declared.key_record.KeyRecord.{KeyRecord}

abbrev pub IsValidKey : LockedKey → Type 0
IsValidKey key = is_chunk key.chunk ≡ true

before_append : (key : Option LockedKey) (xs ys : List LockedKey) → before_keys key (xs ++ ys) ≡ before_keys key xs ++ ys
before_append None xs ys = refl
before_append (Some key) xs ys = refl

locked_push : (records : List KeyRecord) (known : KeyRecord)
    → locked_keys (records ++ known ∷ []) ≡ locked_keys records ++ before_keys (locked_key known) []
locked_push [] known = refl
locked_push (first ∷ records) known =
    ap (before_keys (locked_key first)) (locked_push records known)
    ∙ before_append (locked_key first) (locked_keys records) (before_keys (locked_key known) [])

-- the loop that reads them
pub locked_more : (records : List KeyRecord) (i : ℕ) (known : KeyRecord) (keys more : List LockedKey)
    → i < length records → known ≡ get_or records i known → keys ≡ locked_keys (take i records)
    → more ≡ keys ++ before_keys (locked_key known) [] → more ≡ locked_keys (take (i + 1) records)
locked_more records i known keys more lt is held put =
    put ∙ ap (λ (ks : List LockedKey). ks ++ before_keys (locked_key known) []) held
    ∙ sym (locked_push (take i records) known) ∙ ap locked_keys (sym (take_next records i known lt is))

pub locked_all : (records : List KeyRecord) (i : ℕ) (keys : List LockedKey) → keys ≡ locked_keys (take i records)
    → length records ≤ i → keys ≡ locked_keys records
locked_all records i keys held end = held ∙ ap locked_keys (take_all i records end)

pub valid_push : (keys : List LockedKey) (key : LockedKey) → AllByRecursion IsValidKey keys → IsValidKey key
    → AllByRecursion IsValidKey (keys ++ key ∷ [])
valid_push [] key valid is = (is, tt)
valid_push (first ∷ keys) key valid is = (valid.0, valid_push keys key valid.1 is)
