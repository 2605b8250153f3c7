-- Pairs that stand behind others.
use Rattle.std.proofs.Common.{◌≡◌, ℕ, false, bytes_eq, List, [], ◌∷◌, ◌++◌, Option, Some, None, refl, subst, ◌∙◌, inl, inr}
use Rattle.std.specs.List.{AllByRecursion}
use Rattle.std.proofs.lemmas.Bool.{cases_Bool}
use Rattle.item_text.specs.Lines.{has}
use Rattle.item_text.specs.Props.{value_of}
use Rattle.item_text.specs.Valid.{IsField, IsProp}
use Rattle.item_text.specs.declared.item.Item.{Item}
use Rattle.item_text.specs.declared.item.Prop.{Prop}
use Rattle.jop_base.proofs.KeyedLaws.{bytes_eq-refl}
use Rattle.master_keys.specs.Frames.{pair_if, pair_with, topmost}

-- ---- values

-- a key that the first pairs lack is looked up in the others
pub value_behind : (k : List ℕ) (xs ys : List Prop) → value_of k xs ≡ None
    → value_of k (xs ++ ys) ≡ value_of k ys
unfolding value_of
value_behind k [] ys lacks = refl
value_behind k (p ∷ xs) ys lacks = elim (cases_Bool (bytes_eq p.key k)) [
  | inl same ↦ let no = rw same at lacks in cc
  | inr differ ↦ rw differ (value_behind k xs ys (rw differ at lacks))
]

pub value_found : (k : List ℕ) (xs ys : List Prop) (v : List ℕ) → value_of k xs ≡ Some v
    → value_of k (xs ++ ys) ≡ Some v
unfolding value_of
value_found k [] ys v h = cc
value_found k (p ∷ xs) ys v h = elim (cases_Bool (bytes_eq p.key k)) [
  | inl same ↦ rw same (rw same at h)
  | inr differ ↦ rw differ (value_found k xs ys v (rw differ at h))
]

pub value_lacks : (k : List ℕ) (xs ys : List Prop) → value_of k xs ≡ None → value_of k ys ≡ None
    → value_of k (xs ++ ys) ≡ None
value_lacks k xs ys front back = value_behind k xs ys front ∙ back

pub pair_lacks : (k key : List ℕ) (v : Option (List ℕ)) → bytes_eq key k ≡ false
    → value_of k (pair_if key v) ≡ None
unfolding value_of
pair_lacks k key None differ = refl
pair_lacks k key (Some x) differ = rw differ refl

pub one_lacks : (k key x : List ℕ) → bytes_eq key k ≡ false → value_of k (pair_with key x ∷ []) ≡ None
unfolding value_of
one_lacks k key x differ = rw differ refl

pub pair_has : (k : List ℕ) (v : Option (List ℕ)) → value_of k (pair_if k v) ≡ v
unfolding value_of
pair_has k None = refl
pair_has k (Some x) = rw (bytes_eq-refl k) refl

pub one_has : (k x : List ℕ) → value_of k (pair_with k x ∷ []) ≡ Some x
unfolding value_of
one_has k x = rw (bytes_eq-refl k) refl

-- ---- validity

pub append_valid : (xs ys : List Prop) → AllByRecursion IsProp xs → AllByRecursion IsProp ys
    → AllByRecursion IsProp (xs ++ ys)
append_valid [] ys front back = back
append_valid (p ∷ xs) ys front back = (front.0, append_valid xs ys front.1 back)

value_valid : (k : List ℕ) (props : List Prop) (x : List ℕ) → AllByRecursion IsProp props
    → value_of k props ≡ Some x → IsField x
unfolding value_of
value_valid k [] x valid h = cc
value_valid k (p ∷ props) x valid h = elim (cases_Bool (bytes_eq p.key k)) [
  | inl same ↦
      let is : Some p.value ≡ Some x = rw same at h in
      let here : p.value ≡ x = cc in
      subst IsField here valid.0.value
  | inr differ ↦ value_valid k props x valid.1 (rw differ at h)
]

pair_valid : (key : List ℕ) (v : Option (List ℕ)) → IsField key → has 58 key ≡ false
    → ((x : List ℕ) → v ≡ Some x → IsField x) → AllByRecursion IsProp (pair_if key v)
pair_valid key None field colon value = tt
pair_valid key (Some x) field colon value =
    (record { key = field; no_colon = colon; value = value x refl }, tt)

pub topmost_valid : (key : List ℕ) (item : Item) → IsField key → has 58 key ≡ false
    → AllByRecursion IsProp item.props → AllByRecursion IsProp (topmost key item)
topmost_valid key item field colon valid =
    pair_valid key (value_of key item.props) field colon (λ x is. value_valid key item.props x valid is)
