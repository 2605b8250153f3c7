-- What stands at a key, and what putting and cutting do, once the place of the key is found.
use Rattle.std.specs.Prelude.{ℕ, zero, suc, ◌≡◌, ◌≤◌, ◌<◌, List, [], ◌∷◌, length, Bool, true, false, if◌then◌else◌, bytes_eq, refl, Option, Some, None, Result, Ok, Err, IfOk, IfErr, slice_index_or, slice_set}
use Rattle.std.specs.List.{insert, remove}
use Rattle.std.specs.List.Sorted.{IsBinarySearchResult, IsSearchInRange, IsNonDecreasingBy}
use Rattle.std.specs.declared.cmp.Ordering.{Ordering}
use Rattle.std.specs.declared.cmp.Ordering.TheVariants.{Less, Equal, Greater}
use Rattle.std.specs.Cmp.Lexicographic.{slice_cmp}
use Rattle.std.specs.Ordering.{is_lt, is_eq, nat_cmp, ordering_index, ordering_reverse}
use Rattle.std.proofs.Common.{◌∙◌, ap, subst, arith}
use Rattle.std.proofs.lemmas.Cmp.{nat_list_cmp_total}
use Rattle.jop_base.specs.Keyed.{text_lt, at, put, cut, IsSorted}
use Rattle.jop_base.proofs.KeyedLaws.{IsSorted-cut, IsSorted-put, same_text, bytes_eq-refl, bytes_eq-by_cmp, bytes_eq-text_lt, bytes_eq-sym, text_lt-trans}
use Rattle.local_store.specs.Places.{IsPlaceOf, IsGapFor}

-- ---- what a binary search finds

-- how a key compares with the one that is looked for, as a number that rises along the items
index_of : {T : Type 0} → (T → List ℕ) → List ℕ → T → ℕ
index_of key k x = ordering_index (slice_cmp nat_cmp (key x) k)

less_of : (o : Ordering) → is_lt o ≡ true → o ≡ Less
less_of Less is = refl
less_of Equal is = cc
less_of Greater is = cc

same_by_cmp : (a b : List ℕ) → slice_cmp nat_cmp a b ≡ Equal → a ≡ b
same_by_cmp a b is = same_text a b (bytes_eq-by_cmp a b ∙ ap is_eq is)

-- a text that stands before one which isn't behind k stands before k
below : (a b k : List ℕ) (p : Ordering) → slice_cmp nat_cmp a b ≡ Less → slice_cmp nat_cmp b k ≡ p
    → ¬ (p ≡ Greater) → slice_cmp nat_cmp a k ≡ Less
below a b k Less before is not = nat_list_cmp_total.trans a b k before is
below a b k Equal before is not =
    subst (λ (t : List ℕ). slice_cmp nat_cmp a t ≡ Less) (same_by_cmp b k is) before
below a b k Greater before is not = absurd (not refl)

index_by : (o p : Ordering) → (¬ (p ≡ Greater) → o ≡ Less) → ordering_index o ≤ ordering_index p
index_by Less p low = omega arith
index_by Equal Less low = let no : Equal ≡ Less = low (λ is. cc) in cc
index_by Equal Equal low = omega arith
index_by Equal Greater low = omega arith
index_by Greater Less low = let no : Greater ≡ Less = low (λ is. cc) in cc
index_by Greater Equal low = let no : Greater ≡ Less = low (λ is. cc) in cc
index_by Greater Greater low = omega arith

-- the first item of a sorted list comes before each other
first_before : {T : Type 0} (key : T → List ℕ) (y : T) (ys : List T) (i : ℕ) (d : T)
    → IsSorted key (y ∷ ys) → i < length ys → text_lt (key y) (key (slice_index_or ys i d)) ≡ true
first_before key y [] i d sorted within = absurd (omega arith)
first_before key y (z ∷ zs) zero d sorted within = sorted.0
first_before key y (z ∷ zs) (suc i) d sorted within =
    text_lt-trans (key y) (key z) _ sorted.0
    (first_before key z zs i d sorted.1 (omega arith))

-- the comparison with a key rises along a sorted list
rising : {T : Type 0} (key : T → List ℕ) (k : List ℕ) (xs : List T) → IsSorted key xs
    → IsNonDecreasingBy (index_of key k) xs
unfolding index_of
rising key k [] sorted i j d upto within = absurd (omega arith)
rising key k (x ∷ xs) sorted zero zero d upto within = omega arith
rising key k (x ∷ xs) sorted zero (suc j) d upto within =
    let before = first_before key x xs j d sorted (omega arith) in
    index_by _ _ (λ not. below (key x) _ k _ (less_of _ before) refl not)
rising key k (x ∷ xs) sorted (suc i) zero d upto within = absurd (omega arith)
rising key k (x ∷ xs) sorted (suc i) (suc j) d upto within =
    rising key k xs sorted.1 i j d (omega arith) (omega arith)

-- the place that a binary search of a sorted list answers
pub place_found : {T : Type 0} (key : T → List ℕ) (xs : List T) (k : List ℕ) (r : Result ℕ ℕ)
    → IsSearchInRange r (length xs) → IsBinarySearchResult (λ x. slice_cmp nat_cmp (key x) k) xs r
    → IfOk r (IsPlaceOf key xs k)
place_found key xs k (Err place) range position = tt
place_found key xs k (Ok place) range position = record {
  within = range;
  has_key = λ d. same_by_cmp _ k (position d);
}

-- the gap that a binary search of a sorted list answers
pub gap_found : {T : Type 0} (key : T → List ℕ) (xs : List T) (k : List ℕ) (r : Result ℕ ℕ)
    → IsSorted key xs → IsSearchInRange r (length xs)
    → IsBinarySearchResult (λ x. slice_cmp nat_cmp (key x) k) xs r → IfErr r (IsGapFor key xs k)
unfolding index_of
gap_found key xs k (Ok place) sorted range position = tt
gap_found key xs k (Err place) sorted range position =
    let point = position (rising key k xs sorted) in
    record {
      within = range;
      before = λ i d low high. ap is_lt (point.0 i d low high);
      behind = λ i d low high. ap is_lt
          (nat_list_cmp_total.antisymm k _ ∙ ap ordering_reverse (point.1 i d low high));
    }

-- ---- an item that comes before the key is passed

text_lt-asym : (a b : List ℕ) → text_lt a b ≡ true → text_lt b a ≡ false
text_lt-asym a b before = by (text_lt b a) refl where
  by : (test : Bool) → text_lt b a ≡ test → test ≡ false
  by false is = refl
  by true is =
      let other = bytes_eq-text_lt a a (text_lt-trans a b a before is) in
      let same = bytes_eq-refl a in
      cc

at-pass : {T : Type 0} (key : T → List ℕ) (y : T) (ys : List T) (k : List ℕ)
    → text_lt (key y) k ≡ true → at key (y ∷ ys) k ≡ at key ys k
unfolding at
at-pass key y ys k before =
    ap (λ b. if b then Some y else at key ys k) (bytes_eq-text_lt (key y) k before)

put-pass : {T : Type 0} (key : T → List ℕ) (y : T) (ys : List T) (x : T)
    → text_lt (key y) (key x) ≡ true → put key (y ∷ ys) x ≡ y ∷ put key ys x
unfolding put
put-pass key y ys x before =
    ap (λ b. if b then x ∷ ys else if text_lt (key x) (key y) then x ∷ y ∷ ys else y ∷ put key ys x)
    (bytes_eq-text_lt (key y) (key x) before)
    ∙ ap (λ b. if b then x ∷ y ∷ ys else y ∷ put key ys x) (text_lt-asym (key y) (key x) before)

cut-pass : {T : Type 0} (key : T → List ℕ) (y : T) (ys : List T) (k : List ℕ)
    → text_lt (key y) k ≡ true → cut key (y ∷ ys) k ≡ y ∷ cut key ys k
unfolding cut
cut-pass key y ys k before =
    ap (λ b. if b then ys else y ∷ cut key ys k) (bytes_eq-text_lt (key y) k before)

-- ---- at the place of a key

same_test : (a b : List ℕ) → a ≡ b → bytes_eq a b ≡ true
same_test a b is = subst (λ (t : List ℕ). bytes_eq a t ≡ true) is (bytes_eq-refl a)

-- the first item comes before the key if its place is a later one
before_place : {T : Type 0} (key : T → List ℕ) (y : T) (ys : List T) (k : List ℕ) (i : ℕ)
    → IsSorted key (y ∷ ys) → IsPlaceOf key (y ∷ ys) k (suc i) → text_lt (key y) k ≡ true
before_place key y ys k i sorted is =
    subst (λ (t : List ℕ). text_lt (key y) t ≡ true) (is.has_key y)
    (first_before key y ys i y sorted (let within = is.within in omega arith))

later_place : {T : Type 0} (key : T → List ℕ) (y : T) (ys : List T) (k : List ℕ) (i : ℕ)
    → IsPlaceOf key (y ∷ ys) k (suc i) → IsPlaceOf key ys k i
later_place key y ys k i is = record {
  within = let within = is.within in omega arith;
  has_key = λ d. is.has_key d;
}

pub at-place : {T : Type 0} (key : T → List ℕ) (xs : List T) (k : List ℕ) (i : ℕ) (d : T)
    → IsSorted key xs → IsPlaceOf key xs k i → at key xs k ≡ Some (slice_index_or xs i d)
unfolding at
at-place key [] k i d sorted is = let within = is.within in absurd (omega arith)
at-place key (y ∷ ys) k zero d sorted is =
    ap (λ b. if b then Some y else at key ys k) (same_test (key y) k (is.has_key d))
at-place key (y ∷ ys) k (suc i) d sorted is =
    at-pass key y ys k (before_place key y ys k i sorted is)
    ∙ at-place key ys k i d sorted.1 (later_place key y ys k i is)

pub put-place : {T : Type 0} (key : T → List ℕ) (xs : List T) (x : T) (i : ℕ)
    → IsSorted key xs → IsPlaceOf key xs (key x) i → put key xs x ≡ slice_set xs i x
unfolding put
put-place key [] x i sorted is = let within = is.within in absurd (omega arith)
put-place key (y ∷ ys) x zero sorted is =
    ap (λ b. if b then x ∷ ys else if text_lt (key x) (key y) then x ∷ y ∷ ys else y ∷ put key ys x)
    (same_test (key y) (key x) (is.has_key y))
put-place key (y ∷ ys) x (suc i) sorted is =
    put-pass key y ys x (before_place key y ys (key x) i sorted is)
    ∙ ap (λ zs. y ∷ zs) (put-place key ys x i sorted.1 (later_place key y ys (key x) i is))

pub cut-place : {T : Type 0} (key : T → List ℕ) (xs : List T) (k : List ℕ) (i : ℕ)
    → IsSorted key xs → IsPlaceOf key xs k i → cut key xs k ≡ remove xs i
unfolding cut
cut-place key [] k i sorted is = let within = is.within in absurd (omega arith)
cut-place key (y ∷ ys) k zero sorted is =
    ap (λ b. if b then ys else y ∷ cut key ys k) (same_test (key y) k (is.has_key y))
cut-place key (y ∷ ys) k (suc i) sorted is =
    cut-pass key y ys k (before_place key y ys k i sorted is)
    ∙ ap (λ zs. y ∷ zs) (cut-place key ys k i sorted.1 (later_place key y ys k i is))

-- ---- where no item has the key

before_gap : {T : Type 0} (key : T → List ℕ) (y : T) (ys : List T) (k : List ℕ) (i : ℕ)
    → IsGapFor key (y ∷ ys) k (suc i) → text_lt (key y) k ≡ true
before_gap key y ys k i is = is.before 0 y (omega arith) (omega arith)

behind_gap : {T : Type 0} (key : T → List ℕ) (y : T) (ys : List T) (k : List ℕ)
    → IsGapFor key (y ∷ ys) k 0 → text_lt k (key y) ≡ true
behind_gap key y ys k is = is.behind 0 y (omega arith) (omega arith)

later_gap : {T : Type 0} (key : T → List ℕ) (y : T) (ys : List T) (k : List ℕ) (i : ℕ)
    → IsGapFor key (y ∷ ys) k (suc i) → IsGapFor key ys k i
later_gap key y ys k i is = record {
  within = let within = is.within in omega arith;
  before = λ j d low high. is.before (suc j) d (omega arith) (omega arith);
  behind = λ j d low high. is.behind (suc j) d (omega arith) (omega arith);
}

rest_behind : {T : Type 0} (key : T → List ℕ) (y : T) (ys : List T) (k : List ℕ)
    → IsGapFor key (y ∷ ys) k 0 → IsGapFor key ys k 0
rest_behind key y ys k is = record {
  within = omega arith;
  before = λ j d low high. absurd (omega arith);
  behind = λ j d low high. is.behind (suc j) d (omega arith) (omega arith);
}

pub at-gap : {T : Type 0} (key : T → List ℕ) (xs : List T) (k : List ℕ) (i : ℕ)
    → IsGapFor key xs k i → at key xs k ≡ None
unfolding at
at-gap key [] k i is = refl
at-gap key (y ∷ ys) k zero is =
    let other = bytes_eq-text_lt k (key y) (behind_gap key y ys k is) in
    ap (λ b. if b then Some y else at key ys k) (bytes_eq-sym k (key y) other)
    ∙ at-gap key ys k 0 (rest_behind key y ys k is)
at-gap key (y ∷ ys) k (suc i) is =
    at-pass key y ys k (before_gap key y ys k i is)
    ∙ at-gap key ys k i (later_gap key y ys k i is)

pub put-gap : {T : Type 0} (key : T → List ℕ) (xs : List T) (x : T) (i : ℕ)
    → IsGapFor key xs (key x) i → put key xs x ≡ insert xs i x
unfolding put
put-gap key [] x zero is = refl
put-gap key [] x (suc i) is = let within = is.within in absurd (omega arith)
put-gap key (y ∷ ys) x zero is =
    let first = behind_gap key y ys (key x) is in
    ap (λ b. if b then x ∷ ys else if text_lt (key x) (key y) then x ∷ y ∷ ys else y ∷ put key ys x)
    (bytes_eq-sym (key x) (key y) (bytes_eq-text_lt (key x) (key y) first))
    ∙ ap (λ b. if b then x ∷ y ∷ ys else y ∷ put key ys x) first
put-gap key (y ∷ ys) x (suc i) is =
    put-pass key y ys x (before_gap key y ys (key x) i is)
    ∙ ap (λ zs. y ∷ zs) (put-gap key ys x i (later_gap key y ys (key x) i is))

cut-none_if : {T : Type 0} (y : T) (ys zs : List T) (rest : Option T) (same : Bool)
    → (rest ≡ None → zs ≡ ys) → (if same then Some y else rest) ≡ None
    → (if same then ys else y ∷ zs) ≡ y ∷ ys
cut-none_if y ys zs rest true later none = cc
cut-none_if y ys zs rest false later none = ap (λ l. y ∷ l) (later none)

-- a list in which nothing stands at a key is the same without it
pub cut-none : {T : Type 0} (key : T → List ℕ) (xs : List T) (k : List ℕ)
    → at key xs k ≡ None → cut key xs k ≡ xs
unfolding at cut
cut-none key [] k none = refl
cut-none key (y ∷ ys) k none =
    cut-none_if y ys (cut key ys k) (at key ys k) (bytes_eq (key y) k) (cut-none key ys k) none

-- ---- a sorted list stays sorted

pub IsSorted-set : {T : Type 0} (key : T → List ℕ) (xs : List T) (x : T) (i : ℕ)
    → IsSorted key xs → IsPlaceOf key xs (key x) i → IsSorted key (slice_set xs i x)
IsSorted-set key xs x i sorted is =
    subst (λ ys. IsSorted key ys) (put-place key xs x i sorted is) (IsSorted-put key xs x sorted)

pub IsSorted-insert : {T : Type 0} (key : T → List ℕ) (xs : List T) (x : T) (i : ℕ)
    → IsSorted key xs → IsGapFor key xs (key x) i → IsSorted key (insert xs i x)
IsSorted-insert key xs x i sorted is =
    subst (λ ys. IsSorted key ys) (put-gap key xs x i is) (IsSorted-put key xs x sorted)

pub IsSorted-remove : {T : Type 0} (key : T → List ℕ) (xs : List T) (k : List ℕ) (i : ℕ)
    → IsSorted key xs → IsPlaceOf key xs k i → IsSorted key (remove xs i)
IsSorted-remove key xs k i sorted is =
    subst (λ ys. IsSorted key ys) (cut-place key xs k i sorted is) (IsSorted-cut key xs k sorted)
