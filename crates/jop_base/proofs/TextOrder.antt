-- The order of paths is that of their ranks, and then of their ids.
use Rattle.std.proofs.Common.{◌≡◌, ◌<◌, ◌≤◌, ◌+◌, ◌*◌, ◌∙◌, ◌⊎◌, inl, inr, refl, sym, ap, arith, ℕ, List, [], ◌∷◌, ◌++◌, length, true, codes}
use Rattle.std.specs.Cmp.{nat_cmp_is}
use Rattle.std.specs.Cmp.Lexicographic.{slice_cmp}
use Rattle.std.specs.Option.{option_cmp}
use Rattle.std.specs.Ordering.{nat_cmp, ordering_then}
use Rattle.std.specs.declared.cmp.Ordering.{Ordering}
use Rattle.std.specs.declared.cmp.Ordering.TheVariants.{Less, Equal, Greater}
use Rattle.std.proofs.lemmas.Bool.{cases_lt}
use Rattle.std.proofs.lemmas.Bool.Decides.{nat_tests}
use Rattle.jop_base.specs.Id.{IsIdText, is_digit}
use Rattle.jop_base.specs.LockNames.{Name, IsName}
use Rattle.jop_base.specs.Order.{path_cmp, rank_of, lock_rank, first_two}
use Rattle.jop_base.specs.Paths.{IsPath, id_of, file_name, path_text}
use Rattle.jop_base.specs.declared.lock_name.LockKind.{LockKind}
use Rattle.jop_base.specs.declared.lock_name.LockKind.TheVariants.{Sync, Exclusive}
use Rattle.jop_base.specs.declared.path.Path.{Path}
use Rattle.jop_base.specs.declared.path.Path.TheVariants.{Info, OldVersion, Item, Blob, Lock, Temp as TempFile, Tomb}

-- ---- numbers

less : (a b : ℕ) → a < b → nat_cmp a b ≡ Less
less a b below = sym (nat_cmp_is a b Less below)

greater : (a b : ℕ) → b < a → nat_cmp a b ≡ Greater
greater a b above = sym (nat_cmp_is a b Greater above)

then_less : (a b : ℕ) (o : Ordering) → a < b → ordering_then (nat_cmp a b) o ≡ Less
then_less a b o below = ap (λ (r : Ordering). ordering_then r o) (less a b below)

then_greater : (a b : ℕ) (o : Ordering) → b < a → ordering_then (nat_cmp a b) o ≡ Greater
then_greater a b o above = ap (λ (r : Ordering). ordering_then r o) (greater a b above)

then_same : (a : ℕ) (o : Ordering) → ordering_then (nat_cmp a a) o ≡ o
then_same a o = ap (λ (r : Ordering). ordering_then r o) (sym (nat_cmp_is a a Equal refl))

nat_cmp-add : (a b t u : ℕ) → nat_cmp (a + t) (a + u) ≡ nat_cmp (b + t) (b + u)
nat_cmp-add a b t u = grind (arith, nat_tests)

-- ---- lists

slice_cmp-same : (s : List ℕ) → slice_cmp nat_cmp s s ≡ Equal
slice_cmp-same [] = refl
slice_cmp-same (x ∷ s) = then_same x (slice_cmp nat_cmp s s) ∙ slice_cmp-same s

slice_cmp-append : (i j s : List ℕ)
    → length i ≡ length j → slice_cmp nat_cmp (i ++ s) (j ++ s) ≡ slice_cmp nat_cmp i j
slice_cmp-append [] [] s long = slice_cmp-same s
slice_cmp-append [] (y ∷ j) s long = absurd (omega arith)
slice_cmp-append (x ∷ i) [] s long = absurd (omega arith)
slice_cmp-append (x ∷ i) (y ∷ j) s long =
    ap (λ (o : Ordering). ordering_then (nat_cmp x y) o) (slice_cmp-append i j s (omega arith))

-- ---- an item's name: its first digit stands behind a point, and before each letter behind f

digit_bounds : (d : ℕ) → is_digit d ≡ true → (48 ≤ d) × (d ≤ 102)
digit_bounds d is = grind (arith, nat_tests)

first_bounds : (d : ℕ) (ds : List ℕ) → IsIdText (d ∷ ds) → (48 ≤ d) × (d ≤ 102)
first_bounds d ds id = digit_bounds d (id.digits 0 d (omega arith))

id_behind : (b : ℕ) (x j s : List ℕ)
    → b < 48 → IsIdText j → Less ≡ slice_cmp nat_cmp (b ∷ x) (j ++ s)
id_behind b x [] s near id = absurd (omega (arith, id.long))
id_behind b x (d ∷ ds) s near id = sym (then_less b d _ (omega (arith, first_bounds d ds id)))

behind_id : (b : ℕ) (x j s : List ℕ)
    → b < 48 → IsIdText j → Greater ≡ slice_cmp nat_cmp (j ++ s) (b ∷ x)
behind_id b x [] s near id = absurd (omega (arith, id.long))
behind_id b x (d ∷ ds) s near id = sym (then_greater d b _ (omega (arith, first_bounds d ds id)))

id_before : (b : ℕ) (x j s : List ℕ)
    → 102 < b → IsIdText j → Less ≡ slice_cmp nat_cmp (j ++ s) (b ∷ x)
id_before b x [] s far id = absurd (omega (arith, id.long))
id_before b x (d ∷ ds) s far id = sym (then_less d b _ (omega (arith, first_bounds d ds id)))

before_id : (b : ℕ) (x j s : List ℕ)
    → 102 < b → IsIdText j → Greater ≡ slice_cmp nat_cmp (b ∷ x) (j ++ s)
before_id b x [] s far id = absurd (omega (arith, id.long))
before_id b x (d ∷ ds) s far id = sym (then_greater b d _ (omega (arith, first_bounds d ds id)))

-- ---- ranks

abbrev pub by_rank : Path → Path → Ordering
by_rank p q =
    ordering_then (nat_cmp (rank_of p) (rank_of q))
    (option_cmp (slice_cmp nat_cmp) (id_of p) (id_of q))

item_bounds : (id : List ℕ) → IsIdText id → (200 < 10 * first_two id) × (10 * first_two id < 300000)
item_bounds [] text = absurd (omega (arith, text.long))
item_bounds (d ∷ []) text = absurd (omega (arith, text.long))
item_bounds (d ∷ e ∷ ds) text =
    let first = digit_bounds d (text.digits 0 d (omega arith)) in
    let second = digit_bounds e (text.digits 1 e (omega arith)) in
    (omega arith, omega arith)

lock_bounds : (kind : LockKind) (t : ℕ)
    → t ≤ 9 → (400000 ≤ lock_rank kind t) × (lock_rank kind t < 420000)
lock_bounds Sync t small = (omega arith, omega arith)
lock_bounds Exclusive t small = (omega arith, omega arith)

item_behind : (r : ℕ) (id : List ℕ) (o : Ordering)
    → IsIdText id → r ≤ 200 → ordering_then (nat_cmp r (rank_of (Item id))) o ≡ Less
item_behind r id o text small = then_less r _ o (omega (arith, item_bounds id text))

behind_item : (r : ℕ) (id : List ℕ) (o : Ordering)
    → IsIdText id → r ≤ 200 → ordering_then (nat_cmp (rank_of (Item id)) r) o ≡ Greater
behind_item r id o text small = then_greater _ r o (omega (arith, item_bounds id text))

item_before : (r : ℕ) (id : List ℕ) (o : Ordering)
    → IsIdText id → 300000 ≤ r → ordering_then (nat_cmp (rank_of (Item id)) r) o ≡ Less
item_before r id o text great = then_less _ r o (omega (arith, item_bounds id text))

before_item : (r : ℕ) (id : List ℕ) (o : Ordering)
    → IsIdText id → 300000 ≤ r → ordering_then (nat_cmp r (rank_of (Item id))) o ≡ Greater
before_item r id o text great = then_greater r _ o (omega (arith, item_bounds id text))

lock_behind : (n : Name) (r : ℕ) (o : Ordering)
    → IsName n → r < 400000 → ordering_then (nat_cmp (rank_of (Lock n)) r) o ≡ Greater
lock_behind n r o name small =
    then_greater _ r o (omega (arith, lock_bounds n.kind n.client_type name.client_type))

lock_before : (n : Name) (r : ℕ) (o : Ordering)
    → IsName n → r < 400000 → ordering_then (nat_cmp r (rank_of (Lock n))) o ≡ Less
lock_before n r o name small =
    then_less r _ o (omega (arith, lock_bounds n.kind n.client_type name.client_type))

lock_under : (n : Name) (r : ℕ) (o : Ordering)
    → IsName n → 420000 ≤ r → ordering_then (nat_cmp (rank_of (Lock n)) r) o ≡ Less
lock_under n r o name great =
    then_less _ r o (omega (arith, lock_bounds n.kind n.client_type name.client_type))

lock_over : (n : Name) (r : ℕ) (o : Ordering)
    → IsName n → 420000 ≤ r → ordering_then (nat_cmp r (rank_of (Lock n))) o ≡ Greater
lock_over n r o name great =
    then_greater r _ o (omega (arith, lock_bounds n.kind n.client_type name.client_type))

-- ---- two items

first_two-cmp : (a b c d : ℕ) → b ≤ 102 → d ≤ 102
    → nat_cmp (10 * (256 * a + b)) (10 * (256 * c + d)) ≡ ordering_then (nat_cmp a c) (nat_cmp b d)
first_two-cmp a b c d small other = grind (arith, nat_tests)

said_twice : (p q s : Ordering)
    → ordering_then (ordering_then p q) (ordering_then p (ordering_then q s))
    ≡ ordering_then p (ordering_then q s)
said_twice Less q s = refl
said_twice Greater q s = refl
said_twice Equal Less s = refl
said_twice Equal Equal s = refl
said_twice Equal Greater s = refl

items : (i j : List ℕ) → IsIdText i → IsIdText j → by_rank (Item i) (Item j) ≡ slice_cmp nat_cmp i j
items [] j text other = absurd (omega (arith, text.long))
items (a ∷ []) j text other = absurd (omega (arith, text.long))
items (a ∷ b ∷ x) [] text other = absurd (omega (arith, other.long))
items (a ∷ b ∷ x) (c ∷ []) text other = absurd (omega (arith, other.long))
items (a ∷ b ∷ x) (c ∷ d ∷ y) text other =
    let small = (digit_bounds b (text.digits 1 b (omega arith))).1 in
    let less = (digit_bounds d (other.digits 1 d (omega arith))).1 in
    let ids = slice_cmp nat_cmp (a ∷ b ∷ x) (c ∷ d ∷ y) in
    ap (λ (o : Ordering). ordering_then o ids) (first_two-cmp a b c d small less)
    ∙ said_twice (nat_cmp a c) (nat_cmp b d) (slice_cmp nat_cmp x y)

-- ---- an item and a file of deletions, whose folder's name begins as an id may

-- the name of such a file behind its first three letters
abbrev tomb_rest : List ℕ → List ℕ
tomb_rest j = codes "eted/" ++ j

-- the text of an item against it
item_text : (a b c : ℕ) (x y : List ℕ) → c ≤ 102 →
    ((a < 100) ⊎ ((a ≡ 100) × (b ≤ 101)) →
    slice_cmp nat_cmp (a ∷ b ∷ c ∷ x) (100 ∷ 101 ∷ 108 ∷ y) ≡ Less)
    × ((100 < a) ⊎ ((a ≡ 100) × (101 < b)) →
    slice_cmp nat_cmp (a ∷ b ∷ c ∷ x) (100 ∷ 101 ∷ 108 ∷ y) ≡ Greater)
item_text a b c x y third =
    let t3 = slice_cmp nat_cmp x y in
    let t2 = ordering_then (nat_cmp c 108) t3 in
    let t1 = ordering_then (nat_cmp b 101) t2 in (
      λ low. elim low [
        | inl less ↦ then_less a 100 t1 less
        | inr same ↦
            ap (λ (n : ℕ). ordering_then (nat_cmp n 100) t1) same.0 ∙ then_same 100 t1
            ∙ elim (cases_lt b 101) [
              | inl less ↦ then_less b 101 t2 less
              | inr more ↦
                  let just : b ≡ 101 = omega (arith, more, same.1) in
                  ap (λ (n : ℕ). ordering_then (nat_cmp n 101) t2) just
                  ∙ then_same 101 t2 ∙ then_less c 108 t3 (omega (arith, third))
            ]
      ],
      λ high. elim high [
        | inl more ↦ then_greater a 100 t1 more
        | inr same ↦
            ap (λ (n : ℕ). ordering_then (nat_cmp n 100) t1) same.0 ∙ then_same 100 t1
            ∙ then_greater b 101 t2 same.1
      ],
    )

-- and it against an item's
tomb_text : (a b c : ℕ) (x y : List ℕ) → c ≤ 102 →
    ((a < 100) ⊎ ((a ≡ 100) × (b ≤ 101)) →
    slice_cmp nat_cmp (100 ∷ 101 ∷ 108 ∷ y) (a ∷ b ∷ c ∷ x) ≡ Greater)
    × ((100 < a) ⊎ ((a ≡ 100) × (101 < b)) →
    slice_cmp nat_cmp (100 ∷ 101 ∷ 108 ∷ y) (a ∷ b ∷ c ∷ x) ≡ Less)
tomb_text a b c x y third =
    let t3 = slice_cmp nat_cmp y x in
    let t2 = ordering_then (nat_cmp 108 c) t3 in
    let t1 = ordering_then (nat_cmp 101 b) t2 in (
      λ low. elim low [
        | inl less ↦ then_greater 100 a t1 less
        | inr same ↦
            ap (λ (n : ℕ). ordering_then (nat_cmp 100 n) t1) same.0 ∙ then_same 100 t1
            ∙ elim (cases_lt b 101) [
              | inl less ↦ then_greater 101 b t2 less
              | inr more ↦
                  let just : b ≡ 101 = omega (arith, more, same.1) in
                  ap (λ (n : ℕ). ordering_then (nat_cmp 101 n) t2) just
                  ∙ then_same 101 t2 ∙ then_greater 108 c t3 (omega (arith, third))
            ]
      ],
      λ high. elim high [
        | inl more ↦ then_less 100 a t1 more
        | inr same ↦
            ap (λ (n : ℕ). ordering_then (nat_cmp 100 n) t1) same.0 ∙ then_same 100 t1
            ∙ then_less 101 b t2 same.1
      ],
    )

-- the first two digits say on which side it stands
side : (a b : ℕ) → b ≤ 102 →
    (((a < 100) ⊎ ((a ≡ 100) × (b ≤ 101))) × (10 * (256 * a + b) < 257011))
    ⊎ (((100 < a) ⊎ ((a ≡ 100) × (101 < b))) × (257011 < 10 * (256 * a + b)))
side a b small = elim (cases_lt a 100) [
  | inl less ↦ inl (inl less, omega (arith, less, small))
  | inr least ↦ elim (cases_lt 100 a) [
    | inl more ↦ inr (inl more, omega (arith, more))
    | inr most ↦ elim (cases_lt 101 b) [
      | inl high ↦ inr (inr (omega (arith, least, most), high), omega (arith, least, most, high))
      | inr low ↦ inl (inr (omega (arith, least, most), low), omega (arith, least, most, low))
    ]
  ]
]

item_and_tomb : (i j : List ℕ) → IsIdText i
    → by_rank (Item i) (Tomb j) ≡ slice_cmp nat_cmp (i ++ codes ".md") (codes "deleted/" ++ j)
item_and_tomb [] j text = absurd (omega (arith, text.long))
item_and_tomb (a ∷ []) j text = absurd (omega (arith, text.long))
item_and_tomb (a ∷ b ∷ []) j text = absurd (omega (arith, text.long))
item_and_tomb (a ∷ b ∷ c ∷ x) j text =
    let small = (digit_bounds b (text.digits 1 b (omega arith))).1 in
    let third = (digit_bounds c (text.digits 2 c (omega arith))).1 in
    let texts = item_text a b c (x ++ codes ".md") (tomb_rest j) third in
    elim (side a b small) [
      | inl low ↦ then_less (10 * (256 * a + b)) 257011 _ low.1 ∙ sym (texts.0 low.0)
      | inr high ↦ then_greater (10 * (256 * a + b)) 257011 _ high.1 ∙ sym (texts.1 high.0)
    ]

tomb_and_item : (i j : List ℕ) → IsIdText i
    → by_rank (Tomb j) (Item i) ≡ slice_cmp nat_cmp (codes "deleted/" ++ j) (i ++ codes ".md")
tomb_and_item [] j text = absurd (omega (arith, text.long))
tomb_and_item (a ∷ []) j text = absurd (omega (arith, text.long))
tomb_and_item (a ∷ b ∷ []) j text = absurd (omega (arith, text.long))
tomb_and_item (a ∷ b ∷ c ∷ x) j text =
    let small = (digit_bounds b (text.digits 1 b (omega arith))).1 in
    let third = (digit_bounds c (text.digits 2 c (omega arith))).1 in
    let texts = tomb_text a b c (x ++ codes ".md") (tomb_rest j) third in
    elim (side a b small) [
      | inl low ↦ then_greater 257011 (10 * (256 * a + b)) _ low.1 ∙ sym (texts.0 low.0)
      | inr high ↦ then_less 257011 (10 * (256 * a + b)) _ high.1 ∙ sym (texts.1 high.0)
    ]

-- ---- two locks

abbrev lock_at : LockKind → ℕ → List ℕ → Path
lock_at kind client_type client =
    Lock (record { kind = kind; client_type = client_type; client = client })

locks_by_type : (a t u : ℕ) (i j : List ℕ) → length i ≡ length j
    → ordering_then (nat_cmp (a + t) (a + u)) (slice_cmp nat_cmp i j)
    ≡ ordering_then (nat_cmp (48 + t) (48 + u))
    (slice_cmp nat_cmp (i ++ codes ".json") (j ++ codes ".json"))
locks_by_type a t u i j long =
    let types = nat_cmp-add a 48 t u in
    let ids = slice_cmp-append i j (codes ".json") long in
    ap (λ (o : Ordering). ordering_then o (slice_cmp nat_cmp i j)) types
    ∙ ap (λ (o : Ordering). ordering_then (nat_cmp (48 + t) (48 + u)) o) (sym ids)

locks : (k l : LockKind) (t u : ℕ) (i j : List ℕ) → t ≤ 9 → u ≤ 9 → length i ≡ length j
    → by_rank (lock_at k t i) (lock_at l u j)
    ≡ slice_cmp nat_cmp (path_text (lock_at k t i)) (path_text (lock_at l u j))
locks Sync Sync t u i j small other long = locks_by_type 400000 t u i j long
locks Sync Exclusive t u i j small other long = then_less (400000 + t) (410000 + u) _ (omega arith)
locks Exclusive Sync t u i j small other long =
    then_greater (410000 + t) (400000 + u) _ (omega arith)
locks Exclusive Exclusive t u i j small other long = locks_by_type 410000 t u i j long

-- ---- paths

pub path_cmp-by_rank : (p q : Path) → IsPath p → IsPath q → by_rank p q ≡ path_cmp p q
unfolding path_cmp
path_cmp-by_rank (Blob i) (Item j) h k =
    item_behind 100 j _ k (omega arith) ∙ id_behind 46 (codes "resource/" ++ i) j _ (omega arith) k
path_cmp-by_rank (Blob i) (Lock m) h k = lock_before m 100 _ k (omega arith)
path_cmp-by_rank OldVersion (Item j) h k =
    item_behind 200 j _ k (omega arith)
    ∙ id_behind 46 (codes "sync/version.txt") j _ (omega arith) k
path_cmp-by_rank OldVersion (Lock m) h k = lock_before m 200 _ k (omega arith)
path_cmp-by_rank (Item i) (Blob j) h k =
    behind_item 100 i _ h (omega arith) ∙ behind_id 46 (codes "resource/" ++ j) i _ (omega arith) h
path_cmp-by_rank (Item i) OldVersion h k =
    behind_item 200 i _ h (omega arith)
    ∙ behind_id 46 (codes "sync/version.txt") i _ (omega arith) h
path_cmp-by_rank (Item i) (Item j) h k =
    items i j h k ∙ sym (slice_cmp-append i j _ (h.long ∙ sym k.long))
path_cmp-by_rank (Item i) Info h k =
    item_before 300000 i _ h (omega arith) ∙ id_before 105 (codes "nfo.json") i _ (omega arith) h
path_cmp-by_rank (Item i) (Lock m) h k =
    lock_before m (rank_of (Item i)) _ k (omega (arith, item_bounds i h))
    ∙ id_before 108 (codes "ocks/" ++ file_name (Lock m)) i _ (omega arith) h
path_cmp-by_rank (Item i) (TempFile j) h k =
    item_before 500000 i _ h (omega arith)
    ∙ id_before 116 (codes "emp/" ++ file_name (TempFile j)) i _ (omega arith) h
path_cmp-by_rank (Item i) (Tomb j) h k = item_and_tomb i j h
path_cmp-by_rank Info (Item j) h k =
    before_item 300000 j _ k (omega arith) ∙ before_id 105 (codes "nfo.json") j _ (omega arith) k
path_cmp-by_rank Info (Lock m) h k = lock_before m 300000 _ k (omega arith)
path_cmp-by_rank (Lock n) (Blob j) h k = lock_behind n 100 _ h (omega arith)
path_cmp-by_rank (Lock n) OldVersion h k = lock_behind n 200 _ h (omega arith)
path_cmp-by_rank (Lock n) (Item j) h k =
    lock_behind n (rank_of (Item j)) _ h (omega (arith, item_bounds j k))
    ∙ before_id 108 (codes "ocks/" ++ file_name (Lock n)) j _ (omega arith) k
path_cmp-by_rank (Lock n) Info h k = lock_behind n 300000 _ h (omega arith)
path_cmp-by_rank (Lock n) (Lock m) h k =
    locks n.kind m.kind n.client_type m.client_type n.client m.client
    h.client_type k.client_type (h.client.long ∙ sym k.client.long)
path_cmp-by_rank (Lock n) (TempFile j) h k = lock_under n 500000 _ h (omega arith)
path_cmp-by_rank (Lock n) (Tomb j) h k = lock_behind n 257011 _ h (omega arith)
path_cmp-by_rank (TempFile i) (Item j) h k =
    before_item 500000 j _ k (omega arith)
    ∙ before_id 116 (codes "emp/" ++ file_name (TempFile i)) j _ (omega arith) k
path_cmp-by_rank (TempFile i) (Lock m) h k = lock_over m 500000 _ k (omega arith)
path_cmp-by_rank (TempFile i) (TempFile j) h k = sym (slice_cmp-append i j _ (h.long ∙ sym k.long))
path_cmp-by_rank (Tomb i) (Item j) h k = tomb_and_item j i k
path_cmp-by_rank (Tomb i) (Lock m) h k = lock_before m 257011 _ k (omega arith)
path_cmp-by_rank p q h k = refl
