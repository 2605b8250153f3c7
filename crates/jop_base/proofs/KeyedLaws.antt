-- What stands at a key once an item was put or cut, and that a sorted list stays sorted.
use Rattle.std.specs.Prelude.{ℕ, ◌≡◌, ◌∷◌, List, [], Bool, true, false, All, if◌then◌else◌, bytes_eq, refl, Option, Some, None}
use Rattle.std.proofs.Common.{sym, ◌∙◌, ap, subst}
use Rattle.std.specs.declared.cmp.Ordering.{Ordering}
use Rattle.std.specs.declared.cmp.Ordering.TheVariants.{Less, Equal, Greater}
use Rattle.std.specs.Cmp.Lexicographic.{slice_cmp}
use Rattle.std.specs.Ordering.{is_lt, is_eq, nat_cmp, ordering_reverse}
use Rattle.std.proofs.lemmas.Cmp.{nat_list_cmp_total}
use Rattle.std.proofs.lemmas.List.Elements.{All-cons, All-head, All-tail}
use Rattle.std.proofs.lemmas.Map.Text.{is_eq-slice_cmp}
use Rattle.std.proofs.lemmas.Slice.Eq.{bytes_eq-Decides}
use Rattle.jop_base.specs.Keyed.{text_lt, at, put, cut, IsAfter, IsSorted}

-- ---- texts

-- texts that the test finds equal are the same one
pub same_text : (a b : List ℕ) → bytes_eq a b ≡ true → a ≡ b
same_text a b is = (bytes_eq-Decides a b).0 is

pub bytes_eq-refl : (a : List ℕ) → bytes_eq a a ≡ true
bytes_eq-refl a = (bytes_eq-Decides a a).1 refl

-- texts that differ are told apart by the test
pub bytes_eq-other : (a b : List ℕ) → ¬ (a ≡ b) → bytes_eq a b ≡ false
bytes_eq-other a b differ = by (bytes_eq a b) refl where
  by : (test : Bool) → bytes_eq a b ≡ test → test ≡ false
  by true is = absurd (differ (same_text a b is))
  by false is = refl

pub bytes_eq-sym : (a b : List ℕ) → bytes_eq a b ≡ false → bytes_eq b a ≡ false
bytes_eq-sym a b differ =
    bytes_eq-other b a (λ is. let same = (bytes_eq-Decides a b).1 (sym is) in cc)

-- the order and the test agree
pub bytes_eq-by_cmp : (a b : List ℕ) → bytes_eq a b ≡ is_eq (slice_cmp nat_cmp a b)
bytes_eq-by_cmp a b = sym (is_eq-slice_cmp a b)

is_less : (o : Ordering) → is_lt o ≡ true → o ≡ Less
is_less Less is = refl
is_less Equal is = cc
is_less Greater is = cc

pub text_lt-trans : (a b c : List ℕ) → text_lt a b ≡ true → text_lt b c ≡ true → text_lt a c ≡ true
text_lt-trans a b c h k = ap is_lt (nat_list_cmp_total.trans a b c (is_less _ h) (is_less _ k))

-- a text differs from those that it stands before
pub bytes_eq-text_lt : (a b : List ℕ) → text_lt a b ≡ true → bytes_eq a b ≡ false
bytes_eq-text_lt a b before = bytes_eq-by_cmp a b ∙ ap is_eq (is_less _ before)

flipped : (o p : Ordering) → o ≡ ordering_reverse p → is_eq o ≡ false → is_lt p ≡ false
    → is_lt o ≡ true
flipped o Less h e l = cc
flipped o Equal h e l = cc
flipped o Greater h e l = rw h refl

-- of two texts that differ one stands before the other
pub text_lt-total : (a b : List ℕ) → bytes_eq a b ≡ false → text_lt b a ≡ false → text_lt a b ≡ true
text_lt-total a b differ after =
    flipped _ _ (nat_list_cmp_total.antisymm a b) (is_eq-slice_cmp a b ∙ differ) after

-- ---- what stands at a key

found : {T : Type 0} (key : T → List ℕ) (y : T) (k : List ℕ) (rest : Option T) (x : T) (same : Bool)
    → bytes_eq (key y) k ≡ same → (rest ≡ Some x → key x ≡ k)
    → (if same then Some y else rest) ≡ Some x → key x ≡ k
found key y k rest x true same deeper is =
    let it : y ≡ x = cc in ap key (sym it) ∙ same_text (key y) k same
found key y k rest x false same deeper is = deeper is

-- the item that stands at a key has it
pub key-at : {T : Type 0} (key : T → List ℕ) (xs : List T) (k : List ℕ) (x : T)
    → at key xs k ≡ Some x → key x ≡ k
unfolding at
key-at key [] k x is = cc
key-at key (y ∷ xs) k x is =
    found key y k (at key xs k) x (bytes_eq (key y) k) refl (key-at key xs k x) is

All-found : {T : Type 0} (P : T → Type 0) (y : T) (rest : Option T) (x : T) (same : Bool)
    → P y → (rest ≡ Some x → P x) → (if same then Some y else rest) ≡ Some x → P x
All-found P y rest x true first deeper is = let it : y ≡ x = cc in subst P it first
All-found P y rest x false first deeper is = deeper is

pub All-at : {T : Type 0} (key : T → List ℕ) (P : T → Type 0) (xs : List T) (k : List ℕ) (x : T)
    → All P xs → at key xs k ≡ Some x → P x
unfolding at
All-at key P [] k x all is = cc
All-at key P (y ∷ xs) k x all is =
    All-found P y (at key xs k) x (bytes_eq (key y) k)
    (All-head P y xs all) (All-at key P xs k x (All-tail P y xs all)) is

after_all : {T : Type 0} (key : T → List ℕ) (k : List ℕ) (x : T) (xs : List T)
    → text_lt k (key x) ≡ true → IsAfter key (key x) xs → IsAfter key k xs
after_all key k x [] before after = tt
after_all key k x (y ∷ xs) before after = text_lt-trans k (key x) (key y) before after

-- nothing stands at a key that comes before the first
at-before : {T : Type 0} (key : T → List ℕ) (xs : List T) (k : List ℕ)
    → IsAfter key k xs → IsSorted key xs → at key xs k ≡ None
unfolding at
at-before key [] k after sorted = refl
at-before key (y ∷ ys) k after sorted =
    let other = bytes_eq-sym k (key y) (bytes_eq-text_lt k (key y) after) in
    ap (λ b. if b then Some y else at key ys k) other
    ∙ at-before key ys k (after_all key k y ys after sorted.0) sorted.1

-- ---- an item that is put

swapped : {A : Type 0} (a b : Bool) (p q r : A) → (a ≡ true → b ≡ true → ⊥)
    → (if b then q else if a then p else r) ≡ (if a then p else if b then q else r)
swapped true true p q r apart = absurd (apart refl refl)
swapped true false p q r apart = refl
swapped false true p q r apart = refl
swapped false false p q r apart = refl

hidden : {A : Type 0} (a b : Bool) (p q r : A) → a ≡ b
    → (if a then p else r) ≡ (if a then p else if b then q else r)
hidden true b p q r same = refl
hidden false true p q r same = cc
hidden false false p q r same = refl

at-put_if : {T : Type 0} (key : T → List ℕ) (y : T) (ys : List T) (x : T) (k : List ℕ)
    (same first : Bool)
    → bytes_eq (key y) (key x) ≡ same
    → at key (put key ys x) k ≡ (if bytes_eq (key x) k then Some x else at key ys k)
    → at key (if same then x ∷ ys else if first then x ∷ y ∷ ys else y ∷ put key ys x) k
    ≡ (if bytes_eq (key x) k then Some x else at key (y ∷ ys) k)
unfolding at
at-put_if key y ys x k true first same later =
    hidden (bytes_eq (key x) k) (bytes_eq (key y) k) (Some x) (Some y) (at key ys k)
    (ap (λ t. bytes_eq t k) (sym (same_text (key y) (key x) same)))
at-put_if key y ys x k false true same later = refl
at-put_if key y ys x k false false same later =
    ap (λ o. if bytes_eq (key y) k then Some y else o) later
    ∙ swapped (bytes_eq (key x) k) (bytes_eq (key y) k) (Some x) (Some y) (at key ys k)
    (λ of_x of_y.
    let both : key y ≡ key x = same_text (key y) k of_y ∙ sym (same_text (key x) k of_x) in
    let is = (bytes_eq-Decides (key y) (key x)).1 both in
    cc)

-- at its own key stands the item that was put, and at each other what stood there
pub at-put : {T : Type 0} (key : T → List ℕ) (xs : List T) (x : T) (k : List ℕ)
    → at key (put key xs x) k ≡ (if bytes_eq (key x) k then Some x else at key xs k)
unfolding at put
at-put key [] x k = refl
at-put key (y ∷ ys) x k =
    at-put_if key y ys x k (bytes_eq (key y) (key x)) (text_lt (key x) (key y)) refl
    (at-put key ys x k)

pub at-put_same : {T : Type 0} (key : T → List ℕ) (xs : List T) (x : T)
    → at key (put key xs x) (key x) ≡ Some x
at-put_same key xs x =
    at-put key xs x (key x)
    ∙ ap (λ b. if b then Some x else at key xs (key x)) (bytes_eq-refl (key x))

pub at-put_other : {T : Type 0} (key : T → List ℕ) (xs : List T) (x : T) (k : List ℕ)
    → bytes_eq (key x) k ≡ false → at key (put key xs x) k ≡ at key xs k
at-put_other key xs x k other =
    at-put key xs x k ∙ ap (λ b. if b then Some x else at key xs k) other

All-put_if : {T : Type 0} (P : T → Type 0) (y : T) (ys zs : List T) (x : T) (same first : Bool)
    → All P (y ∷ ys) → P x → All P zs
    → All P (if same then x ∷ ys else if first then x ∷ y ∷ ys else y ∷ zs)
All-put_if P y ys zs x true first all one later = All-cons P x ys one (All-tail P y ys all)
All-put_if P y ys zs x false true all one later = All-cons P x (y ∷ ys) one all
All-put_if P y ys zs x false false all one later = All-cons P y zs (All-head P y ys all) later

pub All-put : {T : Type 0} (key : T → List ℕ) (P : T → Type 0) (xs : List T) (x : T)
    → All P xs → P x → All P (put key xs x)
unfolding put
All-put key P [] x all one = All-cons P x [] one all
All-put key P (y ∷ ys) x all one =
    All-put_if P y ys (put key ys x) x (bytes_eq (key y) (key x)) (text_lt (key x) (key y))
    all one (All-put key P ys x (All-tail P y ys all) one)

IsAfter-put_if : {T : Type 0} (key : T → List ℕ) (k : List ℕ) (y : T) (ys zs : List T) (x : T)
    (same first : Bool)
    → text_lt k (key x) ≡ true → text_lt k (key y) ≡ true
    → IsAfter key k (if same then x ∷ ys else if first then x ∷ y ∷ ys else y ∷ zs)
IsAfter-put_if key k y ys zs x true first h l = h
IsAfter-put_if key k y ys zs x false true h l = h
IsAfter-put_if key k y ys zs x false false h l = l

IsAfter-put : {T : Type 0} (key : T → List ℕ) (k : List ℕ) (xs : List T) (x : T)
    → text_lt k (key x) ≡ true → IsAfter key k xs → IsAfter key k (put key xs x)
unfolding put
IsAfter-put key k [] x h l = h
IsAfter-put key k (y ∷ ys) x h l =
    IsAfter-put_if key k y ys (put key ys x) x (bytes_eq (key y) (key x))
    (text_lt (key x) (key y)) h l

IsSorted-put_if : {T : Type 0} (key : T → List ℕ) (y : T) (ys : List T) (x : T) (same first : Bool)
    → bytes_eq (key y) (key x) ≡ same → text_lt (key x) (key y) ≡ first
    → IsSorted key (y ∷ ys) → IsSorted key (put key ys x)
    → IsSorted key (if same then x ∷ ys else if first then x ∷ y ∷ ys else y ∷ put key ys x)
IsSorted-put_if key y ys x true first e l sorted later =
    (subst (λ (k : List ℕ). IsAfter key k ys) (same_text (key y) (key x) e) sorted.0, sorted.1)
IsSorted-put_if key y ys x false true e l sorted later = (l, sorted)
IsSorted-put_if key y ys x false false e l sorted later =
    (IsAfter-put key (key y) ys x (text_lt-total (key y) (key x) e l) sorted.0, later)

pub IsSorted-put : {T : Type 0} (key : T → List ℕ) (xs : List T) (x : T)
    → IsSorted key xs → IsSorted key (put key xs x)
unfolding put
IsSorted-put key [] x sorted = (tt, tt)
IsSorted-put key (y ∷ ys) x sorted =
    IsSorted-put_if key y ys x (bytes_eq (key y) (key x)) (text_lt (key x) (key y)) refl refl
    sorted (IsSorted-put key ys x sorted.1)

-- ---- an item that is cut

at-cut_if : {T : Type 0} (key : T → List ℕ) (y : T) (ys : List T) (k : List ℕ) (same : Bool)
    → bytes_eq (key y) k ≡ same → IsSorted key (y ∷ ys) → at key (cut key ys k) k ≡ None
    → at key (if same then ys else y ∷ cut key ys k) k ≡ None
unfolding at
at-cut_if key y ys k true same sorted later =
    at-before key ys k
    (subst (λ (t : List ℕ). IsAfter key t ys) (same_text (key y) k same) sorted.0) sorted.1
at-cut_if key y ys k false same sorted later =
    ap (λ b. if b then Some y else at key (cut key ys k) k) same ∙ later

-- in a sorted list nothing stands at a key that was cut
pub at-cut : {T : Type 0} (key : T → List ℕ) (xs : List T) (k : List ℕ)
    → IsSorted key xs → at key (cut key xs k) k ≡ None
unfolding at cut
at-cut key [] k sorted = refl
at-cut key (y ∷ ys) k sorted =
    at-cut_if key y ys k (bytes_eq (key y) k) refl sorted (at-cut key ys k sorted.1)

at-cut_other_if : {T : Type 0} (key : T → List ℕ) (y : T) (ys : List T) (k other : List ℕ)
    (same : Bool)
    → bytes_eq (key y) k ≡ same → bytes_eq k other ≡ false
    → at key (cut key ys k) other ≡ at key ys other
    → at key (if same then ys else y ∷ cut key ys k) other ≡ at key (y ∷ ys) other
unfolding at
at-cut_other_if key y ys k other true same differ later =
    let apart : bytes_eq (key y) other ≡ false =
    subst (λ (t : List ℕ). bytes_eq t other ≡ false) (sym (same_text (key y) k same)) differ in
    ap (λ b. if b then Some y else at key ys other) (sym apart)
at-cut_other_if key y ys k other false same differ later =
    ap (λ o. if bytes_eq (key y) other then Some y else o) later

-- at each other key stands what stood there
pub at-cut_other : {T : Type 0} (key : T → List ℕ) (xs : List T) (k other : List ℕ)
    → bytes_eq k other ≡ false → at key (cut key xs k) other ≡ at key xs other
unfolding at cut
at-cut_other key [] k other differ = refl
at-cut_other key (y ∷ ys) k other differ =
    at-cut_other_if key y ys k other (bytes_eq (key y) k) refl differ
    (at-cut_other key ys k other differ)

All-cut_if : {T : Type 0} (P : T → Type 0) (y : T) (ys zs : List T) (same : Bool)
    → All P (y ∷ ys) → All P zs → All P (if same then ys else y ∷ zs)
All-cut_if P y ys zs true all later = All-tail P y ys all
All-cut_if P y ys zs false all later = All-cons P y zs (All-head P y ys all) later

pub All-cut : {T : Type 0} (key : T → List ℕ) (P : T → Type 0) (xs : List T) (k : List ℕ)
    → All P xs → All P (cut key xs k)
unfolding cut
All-cut key P [] k all = all
All-cut key P (y ∷ ys) k all =
    All-cut_if P y ys (cut key ys k) (bytes_eq (key y) k) all
    (All-cut key P ys k (All-tail P y ys all))

IsAfter-cut_if : {T : Type 0} (key : T → List ℕ) (k : List ℕ) (y : T) (ys zs : List T) (same : Bool)
    → text_lt k (key y) ≡ true → IsAfter key (key y) ys
    → IsAfter key k (if same then ys else y ∷ zs)
IsAfter-cut_if key k y ys zs true h sorted = after_all key k y ys h sorted
IsAfter-cut_if key k y ys zs false h sorted = h

IsAfter-cut : {T : Type 0} (key : T → List ℕ) (k : List ℕ) (xs : List T) (cutting : List ℕ)
    → IsAfter key k xs → IsSorted key xs → IsAfter key k (cut key xs cutting)
unfolding cut
IsAfter-cut key k [] cutting h sorted = tt
IsAfter-cut key k (y ∷ ys) cutting h sorted =
    IsAfter-cut_if key k y ys (cut key ys cutting) (bytes_eq (key y) cutting) h sorted.0

IsSorted-cut_if : {T : Type 0} (key : T → List ℕ) (y : T) (ys : List T) (k : List ℕ) (same : Bool)
    → IsSorted key (y ∷ ys) → IsSorted key (cut key ys k)
    → IsSorted key (if same then ys else y ∷ cut key ys k)
IsSorted-cut_if key y ys k true sorted later = sorted.1
IsSorted-cut_if key y ys k false sorted later =
    (IsAfter-cut key (key y) ys k sorted.0 sorted.1, later)

pub IsSorted-cut : {T : Type 0} (key : T → List ℕ) (xs : List T) (k : List ℕ)
    → IsSorted key xs → IsSorted key (cut key xs k)
unfolding cut
IsSorted-cut key [] k sorted = tt
IsSorted-cut key (y ∷ ys) k sorted =
    IsSorted-cut_if key y ys k (bytes_eq (key y) k) sorted (IsSorted-cut key ys k sorted.1)
