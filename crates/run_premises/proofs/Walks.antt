-- A walk back from a put to the check before it.
use Rattle.std.proofs.Common.{◌≡◌, ◌∙◌, ◌<◌, ◌≤◌, ◌+◌, ◌-◌, ◌↔◌, ◌⊎◌, inl, inr, refl, ap, sym, subst, arith, ℕ, List, Bool, true, false, Some, slice_get}
use Rattle.std.specs.Prelude.{◌&&◌, ◌||◌}
use Rattle.std.proofs.lemmas.Bool.{and_parts, false≢true, true≢false}
use Rattle.run_premises.specs.Between.{IsCrossedAt, is_check_turn, is_own_turn, is_upload_turn}
use Rattle.run_premises.specs.declared.turn.Turn.{Turn}
use Rattle.run_premises.specs.declared.turn.Turn.TheVariants.{Checks, Uploads}

-- From this place on to the put the client does nothing with the file, and it is known whether another one's put lands.
pub record IsWalked (ts : List Turn) (put at : ℕ) (crossed : Bool) : Type 0 where
  pub still : (place : ℕ) (t : Turn) → at ≤ place → place < put → slice_get ts place ≡ Some t → is_own_turn t ≡ false
  pub yes : crossed ≡ true → (place : ℕ) × (at ≤ place) × (place < put) × (slice_get ts place ≡ Some Uploads)
  pub no : crossed ≡ false → (place : ℕ) → at ≤ place → place < put → ¬ (slice_get ts place ≡ Some Uploads)

some_same : {A : Type 0} (x y : A) → Some x ≡ Some y → x ≡ y
some_same x y e = cc

check_is : (t : Turn) → is_check_turn t ≡ true → t ≡ Checks
check_is Checks e = refl
check_is t e = absurd (false≢true e)

upload_is : (t : Turn) → is_upload_turn t ≡ true → t ≡ Uploads
upload_is Uploads e = refl
upload_is t e = absurd (false≢true e)

from_here : (at place : ℕ) → at ≤ place → (at ≡ place) ⊎ (at + 1 ≤ place)
from_here at place h = grind arith

pub begun : (ts : List Turn) (put : ℕ) → IsWalked ts put put false
begun ts put = record {
  still = λ place t from to. absurd (omega (arith, from, to));
  yes = λ e. absurd (false≢true e);
  no = λ e place from to. absurd (omega (arith, from, to));
}

-- a place more, where the client does nothing with the file
pub walked : (ts : List Turn) (put at : ℕ) (crossed : Bool) (t : Turn) → at < put → slice_get ts at ≡ Some t →
    is_own_turn t ≡ false → IsWalked ts put (at + 1) crossed → IsWalked ts put at (crossed || is_upload_turn t)
walked ts put at crossed t within here own w = record {
  still = λ place u from to there. elim (from_here at place from) [
    | inl same ↦
        let there' : slice_get ts at ≡ Some u = subst (λ (k : ℕ). slice_get ts k ≡ Some u) (sym same) there in
        subst (λ (v : Turn). is_own_turn v ≡ false) (some_same t u (sym here ∙ there')) own
    | inr later ↦ w.still place u later to there
  ];
  yes = yes_now crossed refl;
  no = no_now crossed refl;
}
  where
    yes_now : (b : Bool) → crossed ≡ b → (b || is_upload_turn t) ≡ true →
        (place : ℕ) × (at ≤ place) × (place < put) × (slice_get ts place ≡ Some Uploads)
    yes_now true is e =
        let found = w.yes is in
        (found.0, (let from = found.1 in omega (arith, from)), found.2, found.3)
    yes_now false is e = (at, omega arith, within, here ∙ ap (λ (v : Turn). Some v) (upload_is t e))

    no_now : (b : Bool) → crossed ≡ b → (b || is_upload_turn t) ≡ false →
        (place : ℕ) → at ≤ place → place < put → ¬ (slice_get ts place ≡ Some Uploads)
    no_now true is e place from to there = absurd (true≢false e)
    no_now false is e place from to there = elim (from_here at place from) [
      | inl same ↦
          let there' : slice_get ts at ≡ Some Uploads =
          subst (λ (k : ℕ). slice_get ts k ≡ Some Uploads) (sym same) there in
          absurd (true≢false (subst (λ (v : Turn). is_upload_turn v ≡ false)
          (some_same t Uploads (sym here ∙ there')) e))
      | inr later ↦ w.no is place later to there
    ]

-- the walk stops at the client's own step
pub stops_crossed : (ts : List Turn) (put at : ℕ) (crossed : Bool) (t : Turn) → slice_get ts at ≡ Some t →
    IsWalked ts put (at + 1) crossed → (is_check_turn t && crossed) ≡ true → IsCrossedAt ts put
stops_crossed ts put at crossed t here w e =
    let parts = and_parts (is_check_turn t) crossed e in
    let found = w.yes parts.1 in
    record {
      check = at;
      crossing = found.0;
      checks = here ∙ ap (λ (v : Turn). Some v) (check_is t parts.0);
      crosses = found.3;
      after = (let from = found.1 in omega (arith, from));
      before = found.2;
      still = λ place u from to there. w.still place u (omega (arith, from)) to there;
    }

three : (a b : ℕ) → (a < b) ⊎ ((a ≡ b) ⊎ (b + 1 ≤ a))
three a b = grind arith

pub stops_uncrossed : (ts : List Turn) (put at : ℕ) (crossed : Bool) (t : Turn) → at < put → slice_get ts at ≡ Some t →
    is_own_turn t ≡ true → IsWalked ts put (at + 1) crossed → IsCrossedAt ts put → (is_check_turn t && crossed) ≡ true
stops_uncrossed ts put at crossed t within here own w g = elim (three g.check at) [
  | inl earlier ↦ absurd (true≢false (sym own ∙ g.still at t earlier within here))
  | inr rest ↦ elim rest [
    | inl same ↦
        let there : slice_get ts at ≡ Some Checks = subst (λ (k : ℕ). slice_get ts k ≡ Some Checks) same g.checks in
        let is : t ≡ Checks = some_same t Checks (sym here ∙ there) in
        rw (is) (go crossed refl same)
    | inr later ↦
        absurd (true≢false (w.still g.check Checks later (let a = g.after in let b = g.before in omega (arith, a, b))
        g.checks))
  ]
]
  where
    go : (b : Bool) → crossed ≡ b → g.check ≡ at → b ≡ true
    go true is same = refl
    go false is same =
        absurd (w.no is g.crossing (let a = g.after in omega (arith, a, same)) g.before g.crosses)

-- and where it comes to the beginning there was no check
pub no_check : (ts : List Turn) (put : ℕ) (crossed : Bool) → IsWalked ts put 0 crossed → ¬ IsCrossedAt ts put
no_check ts put crossed w g =
    true≢false (w.still g.check Checks (omega arith) (let a = g.after in let b = g.before in omega (arith, a, b))
    g.checks)

-- ---- by the place behind, as a loop that counts down has it

one_more : (n : ℕ) → 0 < n → n ≡ (n - 1) + 1
one_more n some = omega (arith, some)

pub walked_back : (ts : List Turn) (put n : ℕ) (crossed : Bool) (t : Turn) → 0 < n → n ≤ put →
    slice_get ts (n - 1) ≡ Some t → is_own_turn t ≡ false → IsWalked ts put n crossed →
    IsWalked ts put (n - 1) (crossed || is_upload_turn t)
walked_back ts put n crossed t some within here own w =
    walked ts put (n - 1) crossed t (omega (arith, some, within)) here own
    (subst (λ (k : ℕ). IsWalked ts put k crossed) (one_more n some) w)

pub stops : (ts : List Turn) (put n : ℕ) (crossed : Bool) (t : Turn) → 0 < n → n ≤ put →
    slice_get ts (n - 1) ≡ Some t → is_own_turn t ≡ true → IsWalked ts put n crossed →
    ((is_check_turn t && crossed) ≡ true) ↔ IsCrossedAt ts put
stops ts put n crossed t some within here own w =
    let before = subst (λ (k : ℕ). IsWalked ts put k crossed) (one_more n some) w in (
      stops_crossed ts put (n - 1) crossed t here before,
      stops_uncrossed ts put (n - 1) crossed t (omega (arith, some, within)) here own before,
    )

pub no_check_before : (ts : List Turn) (put n : ℕ) (crossed : Bool) → n ≤ 0 → IsWalked ts put n crossed →
    ¬ IsCrossedAt ts put
no_check_before ts put n crossed none w =
    let zero_is : n ≡ 0 = omega (arith, none) in
    no_check ts put crossed (subst (λ (k : ℕ). IsWalked ts put k crossed) zero_is w)
