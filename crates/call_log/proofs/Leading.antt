-- Where the events of a trail lead among the answers to a seat.
use Rattle.std.proofs.Common.{◌≡◌, ◌⊎◌, ◌↔◌, refl, sym, subst, inl, inr, arith, ℕ, List, [], ◌∷◌, ◌++◌}
use Rattle.std.specs.List.{Contains}
use Rattle.std.specs.Prelude.{slice_get, Some}
use Rattle.std.proofs.lemmas.List.Elements.{Contains-append_left, Contains-push, Contains-push_cases}
use Rattle.std.proofs.lemmas.Option.{get_or_from_slice_get, slice_get_within}
use Rattle.jop_target.specs.declared.event.Event.{Event}
use Rattle.call_log.specs.declared.entry.LogEntry.{LogEntry}
use Rattle.call_log.specs.Agreeing.{LeadsOn, LeadsThrough}

-- ---- numbers in a list

-- one number more
pub contains_pushed : (xs : List ℕ) (x n : ℕ)
    → Contains (xs ++ x ∷ []) n ↔ (Contains xs n ⊎ (n ≡ x))
contains_pushed xs x n = (forth, back)
  where
    forth : Contains (xs ++ x ∷ []) n → Contains xs n ⊎ (n ≡ x)
    forth there = elim (Contains-push_cases xs x n there) [
      | inl before ↦ inl before
      | inr last ↦ inr (sym last)
    ]

    back : Contains xs n ⊎ (n ≡ x) → Contains (xs ++ x ∷ []) n
    back there = elim there [
      | inl before ↦ Contains-append_left xs (x ∷ []) n before
      | inr last ↦ subst (λ (m : ℕ). Contains (xs ++ x ∷ []) m) (sym last) (Contains-push xs x)
    ]

-- a number that is there already is no other
pub contains_still : (xs : List ℕ) (x : ℕ) → Contains xs x → (n : ℕ)
    → Contains xs n ↔ (Contains xs n ⊎ (n ≡ x))
contains_still xs x there n = (
  λ h. inl h,
  λ h. elim h [
    | inl before ↦ before
    | inr same ↦ subst (λ (m : ℕ). Contains xs m) (sym same) there
  ],
)

-- what stands at a place is there
pub contains_at : (xs : List ℕ) (i x : ℕ) → slice_get xs i ≡ Some x → Contains xs x
contains_at xs i x is = (i, slice_get_within xs i x is, get_or_from_slice_get xs i x x is)

-- nothing is in an empty list
pub contains_none : (n : ℕ) (xs : List ℕ) → xs ≡ [] → ¬ Contains xs n
contains_none n xs empty there =
    let none = subst (λ (ys : List ℕ). Contains ys n) empty there in
    omega (arith, none.1)

-- what a list has, and then more
abbrev pub Adds : List ℕ → (ℕ → Type 0) → List ℕ → Type 0
Adds xs P ys = (n : ℕ) → Contains ys n ↔ (Contains xs n ⊎ P n)

-- two additions
pub adds_twice : (P Q : ℕ → Type 0) (xs ys zs : List ℕ) → Adds xs P ys → Adds ys Q zs
    → Adds xs (λ (n : ℕ). P n ⊎ Q n) zs
adds_twice P Q xs ys zs first second n = (forth, back)
  where
    forth : Contains zs n → Contains xs n ⊎ (P n ⊎ Q n)
    forth h = elim ((second n).0 h) [
      | inl a ↦ elim ((first n).0 a) [
        | inl b ↦ inl b
        | inr p ↦ inr (inl p)
      ]
      | inr q ↦ inr (inr q)
    ]

    back : Contains xs n ⊎ (P n ⊎ Q n) → Contains zs n
    back h = elim h [
      | inl a ↦ (second n).1 (inl ((first n).1 (inl a)))
      | inr more ↦ elim more [
        | inl p ↦ (second n).1 (inl ((first n).1 (inr p)))
        | inr q ↦ (second n).1 (inr q)
      ]
    ]

-- the same addition, told otherwise
pub adds_as : (P Q : ℕ → Type 0) (xs ys : List ℕ) → ((n : ℕ) → P n ↔ Q n) → Adds xs P ys
    → Adds xs Q ys
adds_as P Q xs ys same h n = (forth, back)
  where
    forth : Contains ys n → Contains xs n ⊎ Q n
    forth there = elim ((h n).0 there) [
      | inl a ↦ inl a
      | inr p ↦ inr ((same n).0 p)
    ]

    back : Contains xs n ⊎ Q n → Contains ys n
    back there = elim there [
      | inl a ↦ (h n).1 (inl a)
      | inr q ↦ (h n).1 (inr ((same n).1 q))
    ]

-- two additions, told otherwise
pub adds_both : (P R Q S : ℕ → Type 0) (xs ys zs : List ℕ)
    → ((n : ℕ) → P n ↔ R n) → ((n : ℕ) → Q n ↔ S n) → Adds xs P ys → Adds ys Q zs
    → Adds xs (λ (n : ℕ). R n ⊎ S n) zs
adds_both P R Q S xs ys zs pr qs first second =
    adds_twice R S xs ys zs (adds_as P R xs ys pr first) (adds_as Q S ys zs qs second)

-- ---- from several places

-- where these places lead
abbrev pub LeadsFrom : (ℕ → ℕ → Type 0) → List ℕ → ℕ → Type 0
LeadsFrom P ws n = (w : ℕ) × Contains ws w × P w n

-- the list has all numbers to which these places lead, and no others
abbrev pub HasLed : (ℕ → ℕ → Type 0) → List ℕ → List ℕ → Type 0
HasLed P ws xs = (n : ℕ) → Contains xs n ↔ LeadsFrom P ws n

-- one place more
pub led_more : (P : ℕ → ℕ → Type 0) (ws : List ℕ) (w : ℕ) (xs ys : List ℕ) → HasLed P ws xs
    → Adds xs (λ (n : ℕ). P w n) ys → HasLed P (ws ++ w ∷ []) ys
led_more P ws w xs ys before more n = (forth, back)
  where
    forth : Contains ys n → LeadsFrom P (ws ++ w ∷ []) n
    forth h = elim ((more n).0 h) [
      | inl a ↦ let f = (before n).0 a in (f.0, Contains-append_left ws (w ∷ []) f.0 f.1, f.2)
      | inr p ↦ (w, Contains-push ws w, p)
    ]

    back : LeadsFrom P (ws ++ w ∷ []) n → Contains ys n
    back f = elim ((contains_pushed ws w f.0).0 f.1) [
      | inl a ↦ (more n).1 (inl ((before n).1 (f.0, a, f.2)))
      | inr e ↦ (more n).1 (inr (subst (λ (v : ℕ). P v n) e f.2))
    ]

-- none yet
pub led_none : (P : ℕ → ℕ → Type 0) (xs : List ℕ) → xs ≡ [] → HasLed P [] xs
led_none P xs empty n = (
  λ h. absurd (contains_none n xs empty h),
  λ f. absurd (contains_none f.0 [] refl f.1),
)

-- ---- one event more

pub leads_through-last : (answers : List LogEntry) (from : ℕ) (ts : List Event) (t : Event) (to : ℕ)
    → LeadsThrough answers from (ts ++ t ∷ []) to
    ↔ ((mid : ℕ) × LeadsThrough answers from ts mid × LeadsOn answers t mid to)
unfolding LeadsThrough
leads_through-last answers from [] t to = (
  λ h. (from, refl, subst (λ (n : ℕ). LeadsOn answers t from n) (sym h.2) h.1),
  λ h. (to, subst (λ (n : ℕ). LeadsOn answers t n to) h.1 h.2, refl),
)
leads_through-last answers from (s ∷ ss) t to = (
  λ h.
      let more = (leads_through-last answers h.0 ss t to).0 h.2 in
      (more.0, (h.0, h.1, more.1), more.2),
  λ h. (h.1.0, h.1.1, (leads_through-last answers h.1.0 ss t to).1 (h.0, h.1.2, h.2)),
)

-- the list has all places to which the events lead, and no others
abbrev pub AreWays : List LogEntry → List Event → List ℕ → Type 0
AreWays answers ts ws = (n : ℕ) → Contains ws n ↔ LeadsThrough answers 0 ts n

-- where the events lead, and then one event more from there
pub ways_on : (answers : List LogEntry) (ts : List Event) (t : Event) (ws xs : List ℕ)
    → AreWays answers ts ws → HasLed (LeadsOn answers t) ws xs
    → AreWays answers (ts ++ t ∷ []) xs
ways_on answers ts t ws xs before more n = (forth, back)
  where
    forth : Contains xs n → LeadsThrough answers 0 (ts ++ t ∷ []) n
    forth h =
        let f = (more n).0 h in
        (leads_through-last answers 0 ts t n).1 (f.0, (before f.0).0 f.1, f.2)

    back : LeadsThrough answers 0 (ts ++ t ∷ []) n → Contains xs n
    back h =
        let f = (leads_through-last answers 0 ts t n).0 h in
        (more n).1 (f.0, (before f.0).1 f.1, f.2)

-- before the first event
pub ways_first : (answers : List LogEntry) (ws : List ℕ) → ws ≡ 0 ∷ [] → AreWays answers [] ws
unfolding LeadsThrough
ways_first answers ws is n = (forth, back)
  where
    forth : Contains ws n → n ≡ 0
    forth h =
        elim ((contains_pushed [] 0 n).0 (subst (λ (xs : List ℕ). Contains xs n) is h)) [
          | inl none ↦ absurd (contains_none n [] refl none)
          | inr same ↦ same
        ]

    back : n ≡ 0 → Contains ws n
    back same = subst (λ (xs : List ℕ). Contains xs n) (sym is) ((contains_pushed [] 0 n).1 (inr same))
