-- The ids that follow an id differ from each other, until all have come.
use Rattle.std.specs.Prelude.{ℕ, ◌≡◌, ◌+◌, ◌-◌, ◌*◌, ◌%◌, ◌^◌, ◌<◌, ◌≤◌, ◌⊎◌, List, [], ◌∷◌, length, Bool, true, false, nat_le, refl}
use Rattle.std.proofs.Common.{sym, ◌∙◌, ap, subst, arith, inl, inr}
use Rattle.std.proofs.Math.Nat.{mod-eq_of_lt, add-mod_right, mod-add-mod, mul-le-mul_right, eq-or-lt_of_le}
use Rattle.std.proofs.lemmas.Bool.Decides.{nat_tests}
use Rattle.std.proofs.lemmas.List.Elements.{All-head, All-tail}
use Rattle.jop_base.specs.Id.{IsIdText, AreDigits, is_digit, digit_value, number_of}
use Rattle.jop_base.proofs.CountUp.{number_of-lt}
use Rattle.local_changes.specs.Free.{IsIdAfter}

-- ---- an id and its number

digit_value-injective : (d e : ℕ) → is_digit d ≡ true → is_digit e ≡ true
    → digit_value d ≡ digit_value e → d ≡ e
digit_value-injective d e of_d of_e same = grind (arith, nat_tests)

not_less : (v w p n m : ℕ) → v < w → n < p → v * p + n ≡ w * p + m → ⊥
not_less v w p n m less below same =
    let more : (v + 1) * p ≤ w * p = mul-le-mul_right p (omega arith) in
    absurd (omega (arith, more, below, same))

-- a number is below another, or it isn't
below_or : (x p : ℕ) → (x < p) ⊎ (p ≤ x)
below_or x p = by (nat_le p x) refl where
  by : (b : Bool) → nat_le p x ≡ b → (x < p) ⊎ (p ≤ x)
  by true is = inr (grind (arith, nat_tests))
  by false is = inl (grind (arith, nat_tests))

-- the first digit and the number of the others are known from the whole
first_digit : (v w p n m : ℕ) → n < p → m < p → v * p + n ≡ w * p + m → v ≡ w
first_digit v w p n m of_n of_m same = by (below_or v w) where
  up : (w ≡ v) ⊎ (w < v) → v ≡ w
  up (inl is) = sym is
  up (inr more) = absurd (not_less w v p m n more of_m (sym same))

  by : (v < w) ⊎ (w ≤ v) → v ≡ w
  by (inl less) = absurd (not_less v w p n m less of_n same)
  by (inr most) = up (eq-or-lt_of_le most)

number_of-injective : (xs ys : List ℕ) → AreDigits xs → AreDigits ys → length xs ≡ length ys
    → number_of xs ≡ number_of ys → xs ≡ ys
number_of-injective [] [] of_xs of_ys long same = refl
number_of-injective [] (y ∷ ys) of_xs of_ys long same = absurd (omega arith)
number_of-injective (x ∷ xs) [] of_xs of_ys long same = absurd (omega arith)
number_of-injective (x ∷ xs) (y ∷ ys) of_xs of_ys long same =
    let later : length xs ≡ length ys = omega arith in
    let p = 16 ^ length ys in
    let of_later = All-tail (λ d. is_digit d ≡ true) x xs of_xs in
    let of_others = All-tail (λ d. is_digit d ≡ true) y ys of_ys in
    let less : number_of xs < p = subst (λ (n : ℕ). number_of xs < 16 ^ n) later (number_of-lt xs of_later) in
    let less_too = number_of-lt ys of_others in
    let whole : digit_value x * p + number_of xs ≡ digit_value y * p + number_of ys =
    ap (λ (n : ℕ). digit_value x * 16 ^ n + number_of xs) (sym later) ∙ same in
    let first = first_digit (digit_value x) (digit_value y) p (number_of xs) (number_of ys) less less_too whole in
    let rest : number_of xs ≡ number_of ys = omega (arith, ap (λ (v : ℕ). v * p) first, whole) in
    let digit = digit_value-injective x y (All-head (λ d. is_digit d ≡ true) x xs of_xs)
    (All-head (λ d. is_digit d ≡ true) y ys of_ys) first in
    let others = number_of-injective xs ys of_later of_others later rest in
    cc

pub same_number : (a b : List ℕ) → IsIdText a → IsIdText b → number_of a ≡ number_of b → a ≡ b
same_number a b of_a of_b same =
    number_of-injective a b of_a.digits of_b.digits (of_a.long ∙ sym of_b.long) same

pub number_of-bound : (a : List ℕ) → IsIdText a → number_of a < 16 ^ 32
number_of-bound a of_a =
    subst (λ (n : ℕ). number_of a < 16 ^ n) of_a.long (number_of-lt a of_a.digits)

-- ---- steps

wraps : (x p : ℕ) → x < p + p → ((x < p) × (x % p ≡ x)) ⊎ ((p ≤ x) × (x % p + p ≡ x))
wraps x p below = by (below_or x p) where
  by : (x < p) ⊎ (p ≤ x) → ((x < p) × (x % p ≡ x)) ⊎ ((p ≤ x) × (x % p + p ≡ x))
  by (inl less) = inl (less, mod-eq_of_lt less)
  by (inr more) =
      let left : x - p + p ≡ x = omega arith in
      let small : x - p < p = omega arith in
      let same : x % p ≡ x - p =
      ap (λ (y : ℕ). y % p) (sym left) ∙ (add-mod_right (x - p) p ∙ mod-eq_of_lt small) in
      inr (more, omega arith)

-- two numbers of steps that are less than all there are lead apart
pub same_steps : (p a n m : ℕ) → a < p → n < p → m < p → (a + n) % p ≡ (a + m) % p → n ≡ m
same_steps p a n m of_a of_n of_m same =
    by (wraps (a + n) p (omega arith)) (wraps (a + m) p (omega arith)) where
      by : ((a + n < p) × ((a + n) % p ≡ a + n)) ⊎ ((p ≤ a + n) × ((a + n) % p + p ≡ a + n))
          → ((a + m < p) × ((a + m) % p ≡ a + m)) ⊎ ((p ≤ a + m) × ((a + m) % p + p ≡ a + m))
          → n ≡ m
      by (inl n) (inl m) = omega (arith, n.1, m.1, same)
      by (inl k) (inr l) = omega (arith, k.0, k.1, l.0, l.1, same, of_n, of_m, of_a)
      by (inr k) (inl l) = omega (arith, k.0, k.1, l.0, l.1, same, of_n, of_m, of_a)
      by (inr k) (inr l) = omega (arith, k.1, l.1, same)

pub same_step : (from : List ℕ) (n : ℕ) (a b : List ℕ) → IsIdAfter from n a → IsIdAfter from n b
    → a ≡ b
same_step from n a b of_a of_b = same_number a b of_a.text of_b.text (of_a.number ∙ sym of_b.number)

-- the id that so many steps lead to, and the one after it
pub step_after : (from : List ℕ) (n : ℕ) (a b : List ℕ) → IsIdAfter from n a → IsIdText b
    → number_of b ≡ (number_of a + 1) % 16 ^ 32 → IsIdAfter from (n + 1) b
step_after from n a b of_a text next = record {
  text = text;
  number = next ∙ (ap (λ (x : ℕ). (x + 1) % 16 ^ 32) of_a.number
      ∙ (mod-add-mod (number_of from + n) (16 ^ 32) 1
      ∙ ap (λ (x : ℕ). x % 16 ^ 32) (omega arith)));
}
