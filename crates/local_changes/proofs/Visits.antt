-- The ids that are passed on the way to a free one: there are no more of them than tables hold.
use Rattle.std.specs.Prelude.{ℕ, ◌≡◌, ◌+◌, ◌%◌, ◌^◌, ◌<◌, ◌≤◌, ◌⊎◌, List, [], ◌∷◌, ◌++◌, length, map, Bool, true, false, ◌||◌, if◌then◌else◌, is_some, Option, Some, bytes_eq, refl}
use Rattle.std.specs.List.{list_any, IsDistinct, AllByRecursion}
use Rattle.std.proofs.Common.{sym, ◌∙◌, ap, subst, arith, inl, inr, length-append}
use Rattle.std.proofs.lemmas.Bool.{false≢true}
use Rattle.std.proofs.lemmas.List.{length-map}
use Rattle.std.proofs.Math.Nat.{mod-eq_of_lt, eq-or-lt_of_le}
use Rattle.std.proofs.lemmas.List.Folds.{list_any-append}
use Rattle.std.proofs.lemmas.Map.Made.{length-le_from_is_member}
use Rattle.std.specs.Cmp.{IsEquivalence}
use Rattle.jop_base.specs.Id.{IsIdText, number_of}
use Rattle.jop_base.specs.Keyed.{at}
use Rattle.jop_base.proofs.KeyedLaws.{same_text, bytes_eq-refl, bytes_eq-sym}
use Rattle.local_store.specs.declared.tables.Tables.{Tables}
use Rattle.local_store.specs.Rows.{row_id, deletion_id}
use Rattle.local_store.specs.Tables.{deletion_at}
use Rattle.local_changes.specs.Free.{is_taken, IsIdAfter, IsFirstFree}
use Rattle.local_changes.proofs.Steps.{number_of-bound, same_steps, same_step, step_after}

-- ---- equal texts

symmetric : (a b : List ℕ) → bytes_eq a b ≡ bytes_eq b a
symmetric a b = by (bytes_eq a b) refl where
  by : (same : Bool) → bytes_eq a b ≡ same → bytes_eq a b ≡ bytes_eq b a
  by true is = subst (λ (c : List ℕ). bytes_eq a c ≡ bytes_eq c a) (same_text a b is) refl
  by false is = is ∙ sym (bytes_eq-sym a b is)

-- the test of texts, as a test of keys
equal_texts : IsEquivalence bytes_eq
equal_texts = record {
  refl = bytes_eq-refl;
  symm = symmetric;
  congr = λ x y z same. ap (λ (k : List ℕ). bytes_eq k z) (same_text x y same);
}

-- ---- the ids that tables hold

abbrev pub has : List (List ℕ) → List ℕ → Bool
has ids id = list_any (bytes_eq id) ids

abbrev pub ids_of : Tables → List (List ℕ)
ids_of t = map row_id t.rows ++ map deletion_id t.deletions

is_some-if : {T : Type 0} (here : Bool) (x : T) (later : Option T)
    → is_some (if here then Some x else later) ≡ (here || is_some later)
is_some-if true x later = refl
is_some-if false x later = refl

-- an item stands at a key exactly if that is the key of one
is_some-at : {T : Type 0} (key : T → List ℕ) (xs : List T) (k : List ℕ)
    → is_some (at key xs k) ≡ has (map key xs) k
unfolding at
is_some-at key [] k = refl
is_some-at key (x ∷ xs) k =
    is_some-if (bytes_eq (key x) k) x (at key xs k)
    ∙ (ap (λ (b : Bool). b || is_some (at key xs k)) (symmetric (key x) k)
    ∙ ap (λ (b : Bool). bytes_eq k (key x) || b) (is_some-at key xs k))

is_taken-has : (t : Tables) (id : List ℕ) → is_taken t id ≡ has (ids_of t) id
is_taken-has t id =
    ap (λ (b : Bool). b || is_some (deletion_at t id)) (is_some-at row_id t.rows id)
    ∙ (ap (λ (b : Bool). has (map row_id t.rows) id || b) (is_some-at deletion_id t.deletions id)
    ∙ sym (list_any-append (bytes_eq id) (map row_id t.rows) (map deletion_id t.deletions)))

length-ids_of : (t : Tables) → length (ids_of t) ≡ length t.rows + length t.deletions
length-ids_of t =
    let whole = length-append (map row_id t.rows) (map deletion_id t.deletions) in
    let rows = length-map t.rows row_id in
    let deletions = length-map t.deletions deletion_id in
    cc

-- ---- what was passed

-- The id that so many steps lead to, each of the earlier ones being taken: these are listed, each once.
pub record IsVisited (t : Tables) (drawn : List ℕ) (steps : ℕ) (id : List ℕ) : Type 0 where
  pub here : IsIdAfter drawn steps id
  pub passed : List (List ℕ)
  pub count : length passed ≡ steps
  pub distinct : IsDistinct bytes_eq passed
  pub earlier : (q : List ℕ) → has passed q ≡ true → (n : ℕ) × (n < steps) × IsIdAfter drawn n q
  pub first : (n : ℕ) (other : List ℕ) → n < steps → IsIdAfter drawn n other
      → is_taken t other ≡ true

-- nothing is passed at first
pub not_moved : (t : Tables) (drawn : List ℕ) → IsIdText drawn → IsVisited t drawn 0 drawn
unfolding IsDistinct
not_moved t drawn text = record {
  here = record { text = text; number = here };
  passed = [];
  count = refl;
  distinct = tt;
  earlier = λ q is. absurd (false≢true is);
  first = λ n other less is. absurd (omega arith);
}
  where
    none : (n : ℕ) → n + 0 ≡ n
    none n = omega arith

    here : number_of drawn ≡ (number_of drawn + 0) % 16 ^ 32
    here = sym (ap (λ (n : ℕ). n % 16 ^ 32) (none (number_of drawn))
        ∙ mod-eq_of_lt (number_of-bound drawn text))

has_none : (id : List ℕ) (ids : List (List ℕ)) → ((q : List ℕ) → has ids q ≡ true → bytes_eq id q ≡ false)
    → AllByRecursion (λ q. bytes_eq id q ≡ false) ids
has_none id [] apart = tt
has_none id (x ∷ xs) apart = (
  apart x (ap (λ (b : Bool). b || has xs x) (bytes_eq-refl x)),
  has_none id xs (λ q is. apart q (later (bytes_eq q x) (has xs q) is)),
)
  where
    later : (a b : Bool) → b ≡ true → (a || b) ≡ true
    later true b is = refl
    later false b is = is

-- an id that comes later differs from each that was passed
not_passed : (t : Tables) (drawn : List ℕ) (steps : ℕ) (id : List ℕ) → IsIdText drawn → steps < 16 ^ 32
    → (v : IsVisited t drawn steps id) → (q : List ℕ) → has v.passed q ≡ true → bytes_eq id q ≡ false
not_passed t drawn steps id text few v q is = by (bytes_eq id q) refl where
  apart : (n : ℕ) × (n < steps) × IsIdAfter drawn n q → id ≡ q → ⊥
  apart e same =
      let there : IsIdAfter drawn e.0 id =
      subst (λ (a : List ℕ). IsIdAfter drawn e.0 a) (sym same) e.2 in
      let steps_same = same_steps (16 ^ 32) (number_of drawn) e.0 steps (number_of-bound drawn text)
      (omega (arith, e.1, few)) few (sym there.number ∙ v.here.number) in
      absurd (omega (arith, e.1, steps_same))

  by : (b : Bool) → bytes_eq id q ≡ b → b ≡ false
  by true same = absurd (apart (v.earlier q is) (same_text id q same))
  by false same = refl

-- one more is passed, which is taken
pub moved : (t : Tables) (drawn : List ℕ) (steps : ℕ) (id next : List ℕ) → IsIdText drawn → steps < 16 ^ 32
    → IsVisited t drawn steps id → is_taken t id ≡ true → IsIdText next
    → number_of next ≡ (number_of id + 1) % 16 ^ 32 → IsVisited t drawn (steps + 1) next
unfolding IsDistinct
moved t drawn steps id next text few v taken of_next number = record {
  here = step_after drawn steps id next v.here of_next number;
  passed = id ∷ v.passed;
  count = omega (arith, v.count);
  distinct = (has_none id v.passed (not_passed t drawn steps id text few v), v.distinct);
  earlier = earlier_than;
  first = first_taken;
}
  where
    earlier_than : (q : List ℕ) → has (id ∷ v.passed) q ≡ true
        → (n : ℕ) × (n < steps + 1) × IsIdAfter drawn n q
    earlier_than q is = by (bytes_eq q id) refl where
      by : (b : Bool) → bytes_eq q id ≡ b → (n : ℕ) × (n < steps + 1) × IsIdAfter drawn n q
      by true same =
          (steps, omega arith, subst (λ (a : List ℕ). IsIdAfter drawn steps a) (sym (same_text q id same)) v.here)
      by false other =
          let e = v.earlier q (ap (λ (b : Bool). b || has v.passed q) (sym other) ∙ is) in
          (e.0, omega (arith, e.1), e.2)

    first_taken : (n : ℕ) (other : List ℕ) → n < steps + 1 → IsIdAfter drawn n other
        → is_taken t other ≡ true
    first_taken n other less is = by (eq-or-lt_of_le (omega (arith, less))) where
      by : (n ≡ steps) ⊎ (n < steps) → is_taken t other ≡ true
      by (inr earlier) = v.first n other earlier is
      by (inl same) =
          let there : IsIdAfter drawn steps other =
          subst (λ (m : ℕ). IsIdAfter drawn m other) same is in
          subst (λ (a : List ℕ). is_taken t a ≡ true) (same_step drawn steps id other v.here there) taken

-- ---- what is found

pub found : (t : Tables) (drawn : List ℕ) (steps : ℕ) (id : List ℕ) → IsVisited t drawn steps id
    → is_taken t id ≡ false → IsFirstFree t drawn id
found t drawn steps id v free = record { steps = steps; there = v.here; free = free; first = v.first }

-- once as many are passed as tables hold, the next one is free
pub found_last : (t : Tables) (drawn : List ℕ) (steps : ℕ) (id : List ℕ) → IsIdText drawn → steps < 16 ^ 32
    → IsVisited t drawn steps id → length t.rows + length t.deletions ≡ steps → IsFirstFree t drawn id
unfolding IsDistinct
found_last t drawn steps id text few v all = found t drawn steps id v (by (is_taken t id) refl) where
  held : (q : List ℕ) → has (id ∷ v.passed) q ≡ true → is_taken t id ≡ true → has (ids_of t) q ≡ true
  held q is taken = by (bytes_eq q id) refl where
    by : (b : Bool) → bytes_eq q id ≡ b → has (ids_of t) q ≡ true
    by true same = subst (λ (a : List ℕ). has (ids_of t) a ≡ true) (sym (same_text q id same))
        (sym (is_taken-has t id) ∙ taken)
    by false other =
        let e = v.earlier q (ap (λ (b : Bool). b || has v.passed q) (sym other) ∙ is) in
        sym (is_taken-has t q) ∙ v.first e.0 q e.1 e.2

  by : (b : Bool) → is_taken t id ≡ b → b ≡ false
  by true taken =
      let most = length-le_from_is_member equal_texts (id ∷ v.passed) (ids_of t)
      (has_none id v.passed (not_passed t drawn steps id text few v), v.distinct)
      (λ q is. held q is taken) in
      absurd (omega (arith, most, length-ids_of t, v.count, all))
  by false free = refl

-- tables hold less than all ids
pub few_steps : (n a b : ℕ) → n ≤ a + b → a < 2 ^ 64 → b < 2 ^ 64 → n < 16 ^ 32
few_steps n a b most of_a of_b = omega (arith, most, of_a, of_b)
