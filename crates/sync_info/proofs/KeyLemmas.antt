-- Records told apart from the last to the first, beside the set of the ids that were seen.
use Rattle.std.proofs.Common.{◌≡◌, ℕ, zero, suc, ◌+◌, ◌<◌, List, [], ◌∷◌, length, drop, get_or, Bool, true, false, not, ◌||◌, cond, Option, Some, None, option_and_then, is_some, Bor, refl, sym, ap, ◌∙◌}
use Rattle.std.proofs.lemmas.Bool.{and_left, and_right, not_from_true}
use Rattle.std.proofs.lemmas.List.{drop_more}
use Rattle.std.proofs.lemmas.Map.Text.{is_eq-slice_cmp}
use Rattle.std.proofs.lemmas.Option.{slice_get-get_or}
use Rattle.std.specs.Cmp.Lexicographic.{slice_cmp}
use Rattle.std.specs.List.{find, list_any, slice_get}
use Rattle.std.specs.Option.{option_copied}
use Rattle.std.specs.Ordering.{nat_cmp, is_eq}
use Rattle.std.specs.Str.{bytes_eq}
use Rattle.sync_info.specs.Info.{has_id, are_distinct}
use Rattle.sync_info.specs.declared.key_record.KeyRecord.{KeyRecord}

-- two of one id further on are two of one id
distinct-drop : (n : ℕ) (keys : List KeyRecord) → are_distinct (drop n keys) ≡ false
    → are_distinct keys ≡ false
distinct-drop zero keys repeated = repeated
distinct-drop (suc n) [] repeated = repeated
distinct-drop (suc n) (key ∷ keys) repeated =
    and_right (not (list_any (has_id key.id) keys)) (are_distinct keys)
    (distinct-drop n keys repeated)

pub from_here : (keys : List KeyRecord) (i : ℕ) (key : KeyRecord) → i < length keys
    → key ≡ get_or keys i key → drop i keys ≡ key ∷ drop (i + 1) keys
from_here keys i key within is = drop_more keys i key within
    ∙ ap (λ k. k ∷ drop (i + 1) keys) (sym is)

pub repeated : (keys : List KeyRecord) (i : ℕ) (key : KeyRecord) (rest : List KeyRecord)
    → drop i keys ≡ key ∷ rest → list_any (has_id key.id) rest ≡ true → are_distinct keys ≡ false
repeated keys i key rest here there =
    distinct-drop i keys
    (ap are_distinct here ∙ and_left _ (are_distinct rest) (not_from_true _ there))

either : (b r : Bool) → cond b true r ≡ (b || r)
either true r = refl
either false r = refl

-- one id more was seen
pub seen_more : (key : KeyRecord) (rest : List KeyRecord) (id digits : List ℕ) (old new : Bool)
    → digits ≡ key.id → old ≡ list_any (has_id id) rest
    → new ≡ cond (is_eq (slice_cmp nat_cmp digits id)) true old
    → new ≡ list_any (has_id id) (key ∷ rest)
seen_more key rest id digits old new same so_far now =
    now ∙ ap (λ b. cond b true old) (is_eq-slice_cmp digits id ∙ ap (λ d. bytes_eq d id) same)
    ∙ either (has_id id key) old ∙ ap (λ r. has_id id key || r) so_far

-- one record more is found, at its place
pub found_more : (keys : List KeyRecord) (i : ℕ) (key : KeyRecord) (rest : List KeyRecord)
    → (digits id : List ℕ) (old new : Option ℕ) → i < length keys → key ≡ get_or keys i key
    → drop i keys ≡ key ∷ rest → digits ≡ key.id
    → option_and_then (slice_get keys) old ≡ find (has_id id) rest
    → new ≡ cond (is_eq (slice_cmp nat_cmp digits id)) (Some i) old
    → option_and_then (slice_get keys) new ≡ find (has_id id) (drop i keys)
found_more keys i key rest digits id old new within is here same so_far now =
    ap (option_and_then (slice_get keys)) now
    ∙ ap (λ b. option_and_then (slice_get keys) (cond b (Some i) old))
    (is_eq-slice_cmp digits id ∙ ap (λ d. bytes_eq d id) same)
    ∙ at_once (has_id id key)
    ∙ ap (find (has_id id)) (sym here)
  where
    at_once : (b : Bool)
        → option_and_then (slice_get keys) (cond b (Some i) old)
        ≡ cond b (Some key) (find (has_id id) rest)
    at_once true = slice_get-get_or keys i key within ∙ ap Some (sym is)
    at_once false = so_far

-- a record is found exactly if one passes
pub is_some-find : (test : KeyRecord → Bool) (keys : List KeyRecord)
    → is_some (find test keys) ≡ list_any test keys
is_some-find test [] = refl
is_some-find test (key ∷ keys) = by (test key) (is_some-find test keys)
  where
    by : (b : Bool) → is_some (find test keys) ≡ list_any test keys
        → is_some (cond b (Some key) (find test keys)) ≡ (b || list_any test keys)
    by true rest = refl
    by false rest = rest

pub is_some-copied : (key : Option (Bor KeyRecord)) → is_some (option_copied key) ≡ is_some key
is_some-copied None = refl
is_some-copied (Some key) = refl
