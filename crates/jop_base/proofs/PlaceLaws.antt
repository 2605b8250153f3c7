-- Where the first item of a key stands, and where an item of a key is put.
use Rattle.std.proofs.Common.{◌≡◌, ◌<◌, ◌∙◌, refl, sym, ap, subst, arith, ℕ, zero, suc, List, [], ◌∷◌, length, take, get_or, All, true, false, bytes_eq}
use Rattle.std.specs.Prelude.{slice_set}
use Rattle.std.specs.List.{insert}
use Rattle.std.specs.declared.cmp.Ordering.{Ordering}
use Rattle.std.specs.declared.cmp.Ordering.TheVariants.{Less, Equal, Greater}
use Rattle.std.specs.Cmp.Lexicographic.{slice_cmp}
use Rattle.std.specs.Ordering.{is_lt, is_eq, nat_cmp}
use Rattle.std.proofs.lemmas.List.Elements.{All-head, All-tail}
use Rattle.jop_base.specs.Keyed.{text_lt, at, put, cut, IsFirstPlaceOf, IsLacking, Replaces, GoesBefore}
use Rattle.std.proofs.lemmas.Slice.Eq.{bytes_eq-Decides}
use Rattle.jop_base.proofs.KeyedLaws.{same_text, bytes_eq-sym, bytes_eq-by_cmp}

-- how a text stands to the key of an item
abbrev pub order : {T : Type 0} → (T → List ℕ) → List ℕ → T → Ordering
order key k x = slice_cmp nat_cmp k (key x)

-- the key of an item is another one
abbrev pub Differs : {T : Type 0} → (T → List ℕ) → List ℕ → T → Type 0
Differs key k x = bytes_eq (key x) k ≡ false

-- the key of an item comes before this one
abbrev pub Precedes : {T : Type 0} → (T → List ℕ) → List ℕ → T → Type 0
Precedes key k x = order key k x ≡ Greater

pub same_key : {T : Type 0} (key : T → List ℕ) (k : List ℕ) (x : T)
    → is_eq (order key k x) ≡ true → key x ≡ k
same_key key k x is = sym (same_text k (key x) (bytes_eq-by_cmp k (key x) ∙ is))

pub differs : {T : Type 0} (key : T → List ℕ) (k : List ℕ) (x : T)
    → is_eq (order key k x) ≡ false → Differs key k x
differs key k x is = bytes_eq-sym k (key x) (bytes_eq-by_cmp k (key x) ∙ is)

-- ---- the first item of a key

pub IsFirstPlaceOf-here : {T : Type 0} (key : T → List ℕ) (xs : List T) (k : List ℕ) (i : ℕ) (d : T)
    → i < length xs → All (Differs key k) (take i xs) → key (get_or xs i d) ≡ k
    → IsFirstPlaceOf key xs k i
unfolding at cut
IsFirstPlaceOf-here key [] k i d within before is = absurd (omega arith)
IsFirstPlaceOf-here key (y ∷ ys) k zero d within before is =
    let same : bytes_eq (key y) k ≡ true = (bytes_eq-Decides (key y) k).1 is in
    record { within = within; item = rw same refl; rest = rw same refl }
IsFirstPlaceOf-here key (y ∷ ys) k (suc i) d within before is =
    let other : bytes_eq (key y) k ≡ false = All-head (Differs key k) y (take i ys) before in
    let later = IsFirstPlaceOf-here key ys k i d (omega arith)
    (All-tail (Differs key k) y (take i ys) before) is in
    record {
      within = within;
      item = rw other later.item;
      rest = rw other (ap (λ zs. y ∷ zs) later.rest);
    }

pub IsLacking-all : {T : Type 0} (key : T → List ℕ) (xs : List T) (k : List ℕ)
    → All (Differs key k) xs → IsLacking key xs k
unfolding at cut
IsLacking-all key [] k all = record { item = refl; rest = refl }
IsLacking-all key (y ∷ ys) k all =
    let other : bytes_eq (key y) k ≡ false = All-head (Differs key k) y ys all in
    let later = IsLacking-all key ys k (All-tail (Differs key k) y ys all) in
    record { item = rw other later.item; rest = rw other (ap (λ zs. y ∷ zs) later.rest) }

-- ---- where an item of a key is put

-- an item is put behind each whose key comes before its own
put-past : {T : Type 0} (key : T → List ℕ) (y : T) (ys : List T) (x : T)
    → Precedes key (key x) y → put key (y ∷ ys) x ≡ y ∷ put key ys x
unfolding put
put-past key y ys x before =
    let other : bytes_eq (key y) (key x) ≡ false =
    differs key (key x) y (ap is_eq before) in
    let after : text_lt (key x) (key y) ≡ false = ap is_lt before in
    rw (other, after) refl

put-same : {T : Type 0} (key : T → List ℕ) (y : T) (ys : List T) (x : T)
    → order key (key x) y ≡ Equal → put key (y ∷ ys) x ≡ x ∷ ys
unfolding put
put-same key y ys x is =
    let same : bytes_eq (key y) (key x) ≡ true =
    (bytes_eq-Decides (key y) (key x)).1 (same_key key (key x) y (ap is_eq is)) in
    rw same refl

put-first : {T : Type 0} (key : T → List ℕ) (y : T) (ys : List T) (x : T)
    → order key (key x) y ≡ Less → put key (y ∷ ys) x ≡ x ∷ y ∷ ys
unfolding put
put-first key y ys x is =
    let other : bytes_eq (key y) (key x) ≡ false = differs key (key x) y (ap is_eq is) in
    let before : text_lt (key x) (key y) ≡ true = ap is_lt is in
    rw (other, before) refl

put_replacing : {T : Type 0} (key : T → List ℕ) (xs : List T) (i : ℕ) (d x : T)
    → i < length xs → All (Precedes key (key x)) (take i xs)
    → order key (key x) (get_or xs i d) ≡ Equal → put key xs x ≡ slice_set xs i x
put_replacing key [] i d x within before is = absurd (omega arith)
put_replacing key (y ∷ ys) zero d x within before is = put-same key y ys x is
put_replacing key (y ∷ ys) (suc i) d x within before is =
    let later = put_replacing key ys i d x (omega arith)
    (All-tail (Precedes key (key x)) y (take i ys) before) is in
    put-past key y ys x (All-head (Precedes key (key x)) y (take i ys) before)
    ∙ ap (λ zs. y ∷ zs) later

put_inserting : {T : Type 0} (key : T → List ℕ) (xs : List T) (i : ℕ) (d x : T)
    → i < length xs → All (Precedes key (key x)) (take i xs)
    → order key (key x) (get_or xs i d) ≡ Less → put key xs x ≡ insert xs i x
put_inserting key [] i d x within before is = absurd (omega arith)
put_inserting key (y ∷ ys) zero d x within before is = put-first key y ys x is
put_inserting key (y ∷ ys) (suc i) d x within before is =
    let later = put_inserting key ys i d x (omega arith)
    (All-tail (Precedes key (key x)) y (take i ys) before) is in
    put-past key y ys x (All-head (Precedes key (key x)) y (take i ys) before)
    ∙ ap (λ zs. y ∷ zs) later

put_last : {T : Type 0} (key : T → List ℕ) (xs : List T) (x : T)
    → All (Precedes key (key x)) xs → put key xs x ≡ insert xs (length xs) x
unfolding put
put_last key [] x before = refl
put_last key (y ∷ ys) x before =
    put-past key y ys x (All-head (Precedes key (key x)) y ys before)
    ∙ ap (λ zs. y ∷ zs) (put_last key ys x (All-tail (Precedes key (key x)) y ys before))

pub Replaces-here : {T : Type 0} (key : T → List ℕ) (xs : List T) (k : List ℕ) (i : ℕ) (d : T)
    → i < length xs → All (Precedes key k) (take i xs) → order key k (get_or xs i d) ≡ Equal
    → Replaces key xs k i
Replaces-here key xs k i d within before is = record {
  within = within;
  put = λ x own. put_replacing key xs i d x within
      (subst (λ (t : List ℕ). All (Precedes key t) (take i xs)) (sym own) before)
      (subst (λ (t : List ℕ). order key t (get_or xs i d) ≡ Equal) (sym own) is);
}

pub GoesBefore-here : {T : Type 0} (key : T → List ℕ) (xs : List T) (k : List ℕ) (i : ℕ) (d : T)
    → i < length xs → All (Precedes key k) (take i xs) → order key k (get_or xs i d) ≡ Less
    → GoesBefore key xs k i
GoesBefore-here key xs k i d within before is = record {
  within = omega arith;
  put = λ x own. put_inserting key xs i d x within
      (subst (λ (t : List ℕ). All (Precedes key t) (take i xs)) (sym own) before)
      (subst (λ (t : List ℕ). order key t (get_or xs i d) ≡ Less) (sym own) is);
}

pub GoesBefore-all : {T : Type 0} (key : T → List ℕ) (xs : List T) (k : List ℕ)
    → All (Precedes key k) xs → GoesBefore key xs k (length xs)
GoesBefore-all key xs k before = record {
  within = omega arith;
  put = λ x own. put_last key xs x
      (subst (λ (t : List ℕ). All (Precedes key t) xs) (sym own) before);
}
