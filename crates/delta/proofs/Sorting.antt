-- Items in order, each once: what then stands in the list.
use Rattle.std.specs.Prelude.{ℕ, ◌≡◌, List, [], ◌∷◌, Bool, true, false, Contains, IsTrue, refl}
use Rattle.std.specs.BTreeSet.{BTreeSet, contains}
use Rattle.std.proofs.Common.{ap, sym, subst}
use Rattle.std.specs.Cmp.{IsTotalOrder}
use Rattle.std.specs.List.Sorted.{IsStrictlySortedBy}
use Rattle.std.specs.Ordering.{eq_by_cmp, nat_cmp}
use Rattle.std.specs.Set.{is_member}
use Rattle.std.specs.declared.cmp.Ordering.{Ordering}
use Rattle.std.proofs.lemmas.Cmp.{nat_cmp_total, nat_list_cmp_total, on_total, then_total}
use Rattle.std.proofs.lemmas.Map.Lookups.{CmpEqualImpliesEq, btree_set_from_contains, exact_bytes, exact_pairs, exact_unsigned}
use Rattle.std.proofs.lemmas.Map.Text.{is_eq-slice_cmp}
use Rattle.std.proofs.lemmas.Map.Views.{btree_set_contains_from_list, btree_set_contains_iff}
use Rattle.delta.specs.Order.{IsInOrder, Lists, includes, id_cmp, mark_cmp}
use Rattle.delta.specs.declared.mark.Mark.{Mark}

-- tests that follow from each other are one
alike : (a b : Bool) → (IsTrue a → IsTrue b) → (IsTrue b → IsTrue a) → a ≡ b
alike true true f g = refl
alike false false f g = refl
alike true false f g = sym (f refl)
alike false true f g = g refl

-- the order of ids and the test agree on what stands among ids
pub has-by_cmp : (ids : List (List ℕ)) (id : List ℕ) → is_member (eq_by_cmp id_cmp) ids id ≡ includes ids id
has-by_cmp [] id = refl
has-by_cmp (x ∷ xs) id = rw (is_eq-slice_cmp id x, has-by_cmp xs id) refl

marks-total : IsTotalOrder mark_cmp
marks-total = then_total (on_total (λ m. m.stamp) nat_cmp_total) (on_total (λ m. m.id) nat_list_cmp_total)

marks-exact : CmpEqualImpliesEq mark_cmp
marks-exact m n h =
    ap (λ (p : ℕ × List ℕ). record { stamp = p.0; id = p.1 })
    (exact_pairs nat_cmp id_cmp exact_unsigned exact_bytes (m.stamp, m.id) (n.stamp, n.id) h)

-- items in order are all there, each once, and nothing else is
lists-all : {T : Type 0} {cmp : T → T → Ordering} → IsTotalOrder cmp → CmpEqualImpliesEq cmp
    → (items xs : List T) → IsInOrder cmp items xs → Lists cmp (Contains items) xs
lists-all {T} {cmp} total exact items xs h = record {
  rising = subst (IsStrictlySortedBy cmp) (sym h.are) h.has.1;
  whole = λ x c. subst (λ zs. Contains zs x) (sym h.are)
      ((btree_set_contains_iff total exact h.set x).0
      ((btree_set_contains_from_list total exact items h.set h.has x).1 c));
  only = λ x c. (btree_set_contains_from_list total exact items h.set h.has x).0
      ((btree_set_contains_iff total exact h.set x).1 (subst (λ zs. Contains zs x) h.are c));
}

pub lists-ids : (items xs : List (List ℕ)) → IsInOrder id_cmp items xs → Lists id_cmp (Contains items) xs
lists-ids items xs h = lists-all nat_list_cmp_total exact_bytes items xs h

pub lists-marks : (items xs : List Mark) → IsInOrder mark_cmp items xs → Lists mark_cmp (Contains items) xs
lists-marks items xs h = lists-all marks-total marks-exact items xs h

-- a list of what has one property is one of what has another that comes to the same
pub lists-as : {T : Type 0} {cmp : T → T → Ordering} {P Q : T → Type 0} (xs : List T)
    → ((x : T) → P x → Q x) → ((x : T) → Q x → P x) → Lists cmp P xs → Lists cmp Q xs
lists-as xs to from h = record {
  rising = h.rising;
  whole = λ x q. h.whole x (from x q);
  only = λ x c. to x (h.only x c);
}

abbrev as-set : {T : Type 0} → List T → BTreeSet T
as-set xs = record { keys = xs }

-- there is one list of what has a property
lists-one : {T : Type 0} {cmp : T → T → Ordering} {P : T → Type 0} → IsTotalOrder cmp → CmpEqualImpliesEq cmp
    → (xs ys : List T) → Lists cmp P xs → Lists cmp P ys → xs ≡ ys
lists-one {T} {cmp} total exact xs ys a b =
    btree_set_from_contains total (as-set xs) (as-set ys) a.rising b.rising
    (λ x. alike (contains cmp (as-set xs) x) (contains cmp (as-set ys) x)
    (λ h. (btree_set_contains_iff total exact (as-set ys) x).1
    (b.whole x (a.only x ((btree_set_contains_iff total exact (as-set xs) x).0 h))))
    (λ h. (btree_set_contains_iff total exact (as-set xs) x).1
    (a.whole x (b.only x ((btree_set_contains_iff total exact (as-set ys) x).0 h)))))
    exact

pub lists-one-ids : {P : List ℕ → Type 0} (xs ys : List (List ℕ)) → Lists id_cmp P xs → Lists id_cmp P ys → xs ≡ ys
lists-one-ids xs ys = lists-one nat_list_cmp_total exact_bytes xs ys

pub lists-one-marks : {P : Mark → Type 0} (xs ys : List Mark) → Lists mark_cmp P xs → Lists mark_cmp P ys → xs ≡ ys
lists-one-marks xs ys = lists-one marks-total marks-exact xs ys

pub rising-none : IsStrictlySortedBy id_cmp []
unfolding IsStrictlySortedBy
rising-none = tt
