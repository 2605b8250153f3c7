-- The key that an item file gives.
use Rattle.std.proofs.Common.{◌≡◌, ◌≤◌, ◌⊎◌, ◌∙◌, refl, sym, ap, inl, inr, arith, ℕ, zero, suc, List, length, codes, Bool, true, false, ◌||◌, cond, nat_le, bytes_eq, Option, Some, None}
use Rattle.std.specs.Prelude.{MatchOption, IfSome, option_map, option_and_then}
use Rattle.std.specs.Char.{is_ascii_digit}
use Rattle.std.specs.List.{list_all}
use Rattle.std.proofs.lemmas.Bool.{and_parts, and_from, eqb-true, eq-eqb, leb-true, le-leb, false_from_ne_true, false≢true}
use Rattle.std.proofs.lemmas.Slice.Eq.{bytes_eq-Decides}
use Rattle.jop_base.specs.Times.{last_time}
use Rattle.item_kinds.specs.Kinds.{IsTimeOrZero, IsUpdated}
use Rattle.item_kinds.specs.Times.{time_text, IsCount, IsTime}
use Rattle.jop_base.proofs.DecimalLaws.{digits_test, digits_yes}
use Rattle.jop_base.proofs.IdLaws.{IsIdText-from_is_id, is_id-from_IsIdText}
use Rattle.item_kinds.proofs.OneTime.{one_time}
use Rattle.item_text.specs.Grammar.{first_fault, item_in}
use Rattle.item_text.specs.Props.{value_of}
use Rattle.item_text.specs.declared.bad_item.BadItem.{BadItem}
use Rattle.item_text.specs.declared.item.Item.{Item}
use Rattle.item_text.specs.declared.item.Prop.{Prop}
use Rattle.jop_base.specs.Id.{IsIdText, is_id}
use Rattle.sync_info.specs.Info.{IsKeyRecord}
use Rattle.sync_info.proofs.KeptLemmas.{AreKept-nil}
use Rattle.target_upgrade.specs.Keys.{is_key, record_with, is_count_of, is_time_of, last_up_to, time_in, time_at, last_updated, key_of_item, key_of}

-- ---- times

count_yes : (text : List ℕ) (t : ℕ) → is_count_of text t ≡ true → IsCount text t
count_yes text t h =
    let a = and_parts (list_all is_ascii_digit text) _ h in
    let b = and_parts (nat_le 1 (length text)) _ a.1 in
    let c = and_parts (nat_le (length text) 15) _ b.1 in
    let long : 1 ≤ length text = leb-true _ _ b.0 in
    ((omega arith, digits_yes text a.0), leb-true _ _ c.0, eqb-true _ _ c.1)

count_test : (text : List ℕ) (t : ℕ) → IsCount text t → is_count_of text t ≡ true
count_test text t h = and_from _ _ (digits_test text h.0.1) (and_from _ _
    (le-leb 1 (length text) (omega (arith, h.0.0))) (and_from _ _ (le-leb (length text) 15 h.1)
    (eq-eqb _ _ h.2)))

time_yes : (text : List ℕ) (t : ℕ) → t ≤ last_time → is_time_of text t ≡ true → IsTime text t
time_yes text t within h = (within, go (bytes_eq text (time_text t)) refl h) where
  go : (b : Bool) → bytes_eq text (time_text t) ≡ b → (b || is_count_of text t) ≡ true →
      (text ≡ time_text t) ⊎ IsCount text t
  go true same h = inl ((bytes_eq-Decides text (time_text t)).0 same)
  go false same h = inr (count_yes text t h)

or_right : (a b : Bool) → b ≡ true → (a || b) ≡ true
or_right true b h = refl
or_right false b h = h

or_left : (a b : Bool) → a ≡ true → (a || b) ≡ true
or_left true b h = refl
or_left false b h = cc

time_test : (text : List ℕ) (t : ℕ) → IsTime text t → is_time_of text t ≡ true
time_test text t h = elim h.1 [
  | inl same ↦ or_left _ _ ((bytes_eq-Decides text (time_text t)).1 same)
  | inr count ↦ or_right _ _ (count_test text t count)
]

-- the one number that passes
below : (t n : ℕ) → t ≤ suc n → ¬ (t ≡ suc n) → t ≤ n
below t n within other = omega (arith, other)

last_up_to-only : (test : ℕ → Bool) (n t : ℕ) → t ≤ n → test t ≡ true →
    ((s : ℕ) → s ≤ n → test s ≡ true → s ≡ t) → last_up_to test n ≡ t
unfolding last_up_to
last_up_to-only test zero t within passes only = omega arith
last_up_to-only test (suc n) t within passes only = go (test (suc n)) refl
    (λ le. last_up_to-only test n t le passes (λ s small. only s (omega arith))) where
      go : (b : Bool) → test (suc n) ≡ b → (t ≤ n → last_up_to test n ≡ t) → cond b (suc n)
          (last_up_to test n) ≡ t
      go true h rest = only (suc n) (omega arith) h
      go false h rest = rest (below t n within (λ same. false≢true
          (sym h ∙ (ap test (sym same) ∙ passes))))

last_up_to-none : (test : ℕ → Bool) (n : ℕ) → ((s : ℕ) → s ≤ n → test s ≡ false) → last_up_to test n
    ≡ 0
unfolding last_up_to
last_up_to-none test zero none = refl
last_up_to-none test (suc n) none = rw (none (suc n) (omega arith))
    (last_up_to-none test n (λ s le. none s (omega arith)))

pub time_in-time : (text : List ℕ) (t : ℕ) → IsTimeOrZero text t → t ≡ time_in text
unfolding time_in
time_in-time text t (inl is) = sym (last_up_to-only (is_time_of text) last_time t is.0
    (time_test text t is) (λ s within h. one_time text s t (time_yes text s within h) is))
time_in-time text t (inr none) = none.0 ∙ sym (last_up_to-none (is_time_of text) last_time
    (λ s within. false_from_ne_true _ (λ h. none.1 s (time_yes text s within h))))

pub updated_is : (props : List Prop) (t : ℕ) → IsUpdated props t → t ≡ last_updated props
updated_is props t h = go (value_of (codes "updated_time") props) h where
  go : (o : Option (List ℕ)) → MatchOption o (t ≡ 0) (λ value. IsTimeOrZero value t) → t ≡ time_at o
  go None h = h
  go (Some text) h = time_in-time text t h

or_zero_within : (text : List ℕ) (t : ℕ) → IsTimeOrZero text t → t ≤ last_time
or_zero_within text t (inl is) = is.0
or_zero_within text t (inr none) = omega (arith, none.0)

pub updated_within : (props : List Prop) (t : ℕ) → IsUpdated props t → t ≤ last_time
updated_within props t h = go (value_of (codes "updated_time") props) h where
  go : (o : Option (List ℕ)) → MatchOption o (t ≡ 0) (λ value. IsTimeOrZero value t) → t ≤ last_time
  go None h = omega (arith, h)
  go (Some text) h = or_zero_within text t h

-- the time that a text gives is one that can be written
last_up_to-within : (test : ℕ → Bool) (n : ℕ) → last_up_to test n ≤ n
unfolding last_up_to
last_up_to-within test zero = omega arith
last_up_to-within test (suc n) = go (test (suc n)) (last_up_to-within test n) where
  go : (b : Bool) → last_up_to test n ≤ n → cond b (suc n) (last_up_to test n) ≤ suc n
  go true h = omega arith
  go false h = omega (arith, h)

time_in-within : (text : List ℕ) → time_in text ≤ last_time
unfolding time_in
time_in-within text = last_up_to-within (is_time_of text) last_time

updated_in-within : (props : List Prop) → last_updated props ≤ last_time
updated_in-within props = go (value_of (codes "updated_time") props) where
  go : (o : Option (List ℕ)) → time_at o ≤ last_time
  go None = omega arith
  go (Some text) = time_in-within text

-- ---- the text of an item

pub key_read : (id bytes : List ℕ) (item : Item) → item_in bytes ≡ Some item →
    key_of_item id item ≡ key_of id bytes
unfolding key_of
key_read id bytes item is = sym (ap (option_and_then (key_of_item id)) is)

pub key_refused : (id bytes : List ℕ) (f : BadItem) → first_fault bytes ≡ Some f →
    key_of id bytes ≡ None
unfolding key_of item_in
key_refused id bytes f bad = rw bad refl

-- ---- what an item gives

pub id_is : (id : List ℕ) → IsIdText id → is_id id ≡ true
id_is id valid = is_id-from_IsIdText id valid

pub key_made : (id : List ℕ) (item : Item) (content : List ℕ) (t : ℕ) →
    is_key id item.props ≡ true → value_of (codes "content") item.props ≡ Some content →
    IsUpdated item.props t → Some (record_with id t content) ≡ key_of_item id item
key_made id item content t is_one has up =
    sym (rw (is_one, has)
    (ap (λ (u : ℕ). Some (record_with id u content)) (sym (updated_is item.props t up))))

pub key_valid : (id : List ℕ) (content : List ℕ) (t : ℕ) (props : List Prop) → IsIdText id →
    IsUpdated props t → IsKeyRecord (record_with id t content)
key_valid id content t props valid up =
    record { id = valid; updated = updated_within props t up; others = AreKept-nil _ }

key_of_item-valid : (id : List ℕ) (item : Item) → IfSome (key_of_item id item) IsKeyRecord
key_of_item-valid id item = go (is_key id item.props) refl where
  made : IsIdText id → (o : Option (List ℕ)) →
      IfSome (option_map (record_with id (last_updated item.props)) o) IsKeyRecord
  made whose None = tt
  made whose (Some content) =
      record { id = whose; updated = updated_in-within item.props; others = AreKept-nil _ }

  go : (b : Bool) → is_key id item.props ≡ b →
      IfSome (cond b (option_map (record_with id (last_updated item.props))
      (value_of (codes "content") item.props)) None) IsKeyRecord
  go true h =
      made (IsIdText-from_is_id id (and_parts (is_id id) _ h).0)
      (value_of (codes "content") item.props)
  go false h = tt

-- what a file gives is a key
pub key_of-valid : (id bytes : List ℕ) → IfSome (key_of id bytes) IsKeyRecord
unfolding key_of
key_of-valid id bytes = go (item_in bytes) where
  go : (o : Option Item) → IfSome (option_and_then (key_of_item id) o) IsKeyRecord
  go None = tt
  go (Some item) = key_of_item-valid id item
