-- What setting a pair gives.
use Rattle.std.proofs.Common.{◌≡◌, ℕ, true, false, cond, List, [], ◌∷◌, Option, Some, Result, Ok, Err, refl, sym, ap, ◌∙◌, subst, inl, inr}
use Rattle.std.specs.Prelude.{MatchOption, OnOk, OnErr, bytes_eq}
use Rattle.std.specs.List.{list_any, AllByRecursion}
use Rattle.std.proofs.lemmas.Bool.{cases_Bool, cond-true, cond-false, or_parts, or_cases, both_ways, false_from_ne_true}
use Rattle.std.proofs.lemmas.Slice.Eq.{bytes_eq-Decides}
use Rattle.item_text.specs.declared.item.Item.{Item}
use Rattle.item_text.specs.declared.item.Prop.{Prop}
use Rattle.item_text.specs.Props.{has_key, value_of, replaced, inserted, with_prop, type_key}
use Rattle.item_text.specs.Valid.{is_type_value, HasType, IsProp, IsItem}

same_key : (a b : List ℕ) → bytes_eq a b ≡ true → a ≡ b
same_key a b h = (bytes_eq-Decides a b).0 h

own_key : (a : List ℕ) → bytes_eq a a ≡ true
own_key a = (bytes_eq-Decides a a).1 refl

other_key : (a b : List ℕ) → (a ≡ b → ⊥) → bytes_eq a b ≡ false
other_key a b h = false_from_ne_true (bytes_eq a b) (λ e. h (same_key a b e))

-- the first pair decides
value_here : (key : List ℕ) (p : Prop) (ps : List Prop) → has_key key p ≡ true
    → value_of key (p ∷ ps) ≡ Some p.value
unfolding value_of
value_here key p ps h = cond-true (has_key key p) (Some p.value) (value_of key ps) h

value_below : (key : List ℕ) (p : Prop) (ps : List Prop) → has_key key p ≡ false
    → value_of key (p ∷ ps) ≡ value_of key ps
unfolding value_of
value_below key p ps h = cond-false (has_key key p) (Some p.value) (value_of key ps) h

-- what comes below the same first pair
value_under : (key : List ℕ) (p : Prop) (ps qs : List Prop) → value_of key ps ≡ value_of key qs
    → value_of key (p ∷ ps) ≡ value_of key (p ∷ qs)
unfolding value_of
value_under key p ps qs h = ap (λ (o : Option (List ℕ)). cond (has_key key p) (Some p.value) o) h

-- ---- the key's own value

replaced_gives : (p : Prop) (ps : List Prop) → list_any (has_key p.key) ps ≡ true
    → value_of p.key (replaced p ps) ≡ Some p.value
unfolding replaced
replaced_gives p [] h = absurd cc
replaced_gives p (q ∷ qs) h =
    elim (cases_Bool (has_key p.key q)) [
      | inl hit ↦ ap (value_of p.key) (cond-true (has_key p.key q) (p ∷ qs) (q ∷ replaced p qs) hit)
          ∙ value_here p.key p qs (own_key p.key)
      | inr miss ↦
          let rest : list_any (has_key p.key) qs ≡ true =
          elim (or_cases (has_key p.key q) (list_any (has_key p.key) qs) h) [
            | inl hit ↦
                absurd (both_ways (has_key p.key q) miss hit)
            | inr below ↦ below
          ] in
          ap (value_of p.key) (cond-false (has_key p.key q) (p ∷ qs) (q ∷ replaced p qs) miss)
          ∙ value_below p.key q (replaced p qs) miss ∙ replaced_gives p qs rest
    ]

inserted_gives : (p : Prop) (ps : List Prop) → list_any (has_key p.key) ps ≡ false
    → value_of p.key (inserted p ps) ≡ Some p.value
unfolding inserted
inserted_gives p [] h = value_here p.key p [] (own_key p.key)
inserted_gives p (q ∷ qs) h =
    let parts = or_parts (has_key p.key q) (list_any (has_key p.key) qs) h in
    elim (cases_Bool (has_key type_key q)) [
      | inl hit ↦ ap (value_of p.key)
          (cond-true (has_key type_key q) (p ∷ q ∷ qs) (q ∷ inserted p qs) hit)
          ∙ value_here p.key p (q ∷ qs) (own_key p.key)
      | inr miss ↦
          ap (value_of p.key)
          (cond-false (has_key type_key q) (p ∷ q ∷ qs) (q ∷ inserted p qs) miss)
          ∙ value_below p.key q (inserted p qs) parts.0 ∙ inserted_gives p qs parts.1
    ]

pub with_gives : (p : Prop) (ps : List Prop) → value_of p.key (with_prop p ps) ≡ Some p.value
unfolding with_prop
with_gives p ps =
    elim (cases_Bool (list_any (has_key p.key) ps)) [
      | inl some ↦
          ap (value_of p.key)
          (cond-true (list_any (has_key p.key) ps) (replaced p ps) (inserted p ps) some)
          ∙ replaced_gives p ps some
      | inr none ↦
          ap (value_of p.key)
          (cond-false (list_any (has_key p.key) ps) (replaced p ps) (inserted p ps) none)
          ∙ inserted_gives p ps none
    ]

-- ---- the other keys' values

replaced_keeps : (key : List ℕ) (p : Prop) (ps : List Prop) → (p.key ≡ key → ⊥)
    → value_of key (replaced p ps) ≡ value_of key ps
unfolding replaced
replaced_keeps key p [] h = refl
replaced_keeps key p (q ∷ qs) h =
    elim (cases_Bool (has_key p.key q)) [
      | inl hit ↦
          let not_q : has_key key q ≡ false =
          other_key q.key key (λ e. h (sym (same_key q.key p.key hit) ∙ e)) in
          ap (value_of key) (cond-true (has_key p.key q) (p ∷ qs) (q ∷ replaced p qs) hit)
          ∙ value_below key p qs (other_key p.key key h) ∙ sym (value_below key q qs not_q)
      | inr miss ↦
          ap (value_of key) (cond-false (has_key p.key q) (p ∷ qs) (q ∷ replaced p qs) miss)
          ∙ value_under key q (replaced p qs) qs (replaced_keeps key p qs h)
    ]

inserted_keeps : (key : List ℕ) (p : Prop) (ps : List Prop) → (p.key ≡ key → ⊥)
    → value_of key (inserted p ps) ≡ value_of key ps
unfolding inserted
inserted_keeps key p [] h = value_below key p [] (other_key p.key key h)
inserted_keeps key p (q ∷ qs) h =
    elim (cases_Bool (has_key type_key q)) [
      | inl hit ↦ ap (value_of key)
          (cond-true (has_key type_key q) (p ∷ q ∷ qs) (q ∷ inserted p qs) hit)
          ∙ value_below key p (q ∷ qs) (other_key p.key key h)
      | inr miss ↦
          ap (value_of key) (cond-false (has_key type_key q) (p ∷ q ∷ qs) (q ∷ inserted p qs) miss)
          ∙ value_under key q (inserted p qs) qs (inserted_keeps key p qs h)
    ]

pub with_keeps : (key : List ℕ) (p : Prop) (ps : List Prop) → (p.key ≡ key → ⊥)
    → value_of key (with_prop p ps) ≡ value_of key ps
unfolding with_prop
with_keeps key p ps h =
    elim (cases_Bool (list_any (has_key p.key) ps)) [
      | inl some ↦
          ap (value_of key)
          (cond-true (list_any (has_key p.key) ps) (replaced p ps) (inserted p ps) some)
          ∙ replaced_keeps key p ps h
      | inr none ↦
          ap (value_of key)
          (cond-false (list_any (has_key p.key) ps) (replaced p ps) (inserted p ps) none)
          ∙ inserted_keeps key p ps h
    ]

-- ---- validity

replaced_valid : (p : Prop) (ps : List Prop) → IsProp p → AllByRecursion IsProp ps
    → AllByRecursion IsProp (replaced p ps)
unfolding replaced
replaced_valid p [] v h = tt
replaced_valid p (q ∷ qs) v h =
    let P : List Prop → Type 0 = λ ps. AllByRecursion IsProp ps in
    elim (cases_Bool (has_key p.key q)) [
      | inl hit ↦ subst P (sym (cond-true (has_key p.key q) (p ∷ qs) (q ∷ replaced p qs) hit))
          (v, h.1)
      | inr miss ↦
          subst P (sym (cond-false (has_key p.key q) (p ∷ qs) (q ∷ replaced p qs) miss))
          (h.0, replaced_valid p qs v h.1)
    ]

inserted_valid : (p : Prop) (ps : List Prop) → IsProp p → AllByRecursion IsProp ps
    → AllByRecursion IsProp (inserted p ps)
unfolding inserted
inserted_valid p [] v h = (v, tt)
inserted_valid p (q ∷ qs) v h =
    let P : List Prop → Type 0 = λ ps. AllByRecursion IsProp ps in
    elim (cases_Bool (has_key type_key q)) [
      | inl hit ↦ subst P
          (sym (cond-true (has_key type_key q) (p ∷ q ∷ qs) (q ∷ inserted p qs) hit)) (v, h)
      | inr miss ↦
          subst P (sym (cond-false (has_key type_key q) (p ∷ q ∷ qs) (q ∷ inserted p qs) miss))
          (h.0, inserted_valid p qs v h.1)
    ]

with_valid : (p : Prop) (ps : List Prop) → IsProp p → AllByRecursion IsProp ps
    → AllByRecursion IsProp (with_prop p ps)
unfolding with_prop
with_valid p ps v h =
    let P : List Prop → Type 0 = λ ps. AllByRecursion IsProp ps in
    elim (cases_Bool (list_any (has_key p.key) ps)) [
      | inl some ↦
          subst P (sym
          (cond-true (list_any (has_key p.key) ps) (replaced p ps) (inserted p ps) some))
          (replaced_valid p ps v h)
      | inr none ↦
          subst P (sym
          (cond-false (list_any (has_key p.key) ps) (replaced p ps) (inserted p ps) none))
          (inserted_valid p ps v h)
    ]

with_type : (p : Prop) (ps : List Prop) → (p.key ≡ type_key → is_type_value p.value ≡ true)
    → HasType ps → HasType (with_prop p ps)
with_type p ps kind h =
    let Q : Option (List ℕ) → Type 0 = λ o. MatchOption o ⊥ (λ value. is_type_value value ≡ true) in
    elim (cases_Bool (bytes_eq p.key type_key)) [
      | inl is ↦
          let key = same_key p.key type_key is in
          subst Q (sym
          (ap (λ (k : List ℕ). value_of k (with_prop p ps)) (sym key) ∙ with_gives p ps))
          (kind key)
      | inr isnt ↦
          subst Q (sym
          (with_keeps type_key p ps
          (λ e. both_ways (bytes_eq p.key type_key) isnt ((bytes_eq-Decides p.key type_key).1 e))))
          h
    ]

pub item_valid : (item : Item) (p : Prop) → IsItem item → IsProp p
    → (p.key ≡ type_key → is_type_value p.value ≡ true)
    → IsItem (record item { props = with_prop p item.props })
item_valid item p h v kind = record {
  title = h.title;
  no_title = h.no_title;
  props = with_valid p item.props v h.props;
  typed = with_type p item.props kind h.typed;
}

-- whatever the call that sets the pair answers
pub set_valid : {A E : Type 0} (result : Result A E) (old new : Item) (p : Prop)
    → OnOk result (new ≡ record old { props = with_prop p old.props }) → OnErr result (new ≡ old)
    → IsProp p → (p.key ≡ type_key → is_type_value p.value ≡ true) → IsItem old → IsItem new
set_valid (Ok x) old new p ok err v typed h = let P : Item → Type 0 = λ item. IsItem item in
    subst P (sym ok) (item_valid old p h v typed)
set_valid (Err e) old new p ok err v typed h = let P : Item → Type 0 = λ item. IsItem item in
    subst P (sym err) h
