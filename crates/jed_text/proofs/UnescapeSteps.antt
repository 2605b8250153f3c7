-- Unescaping, and what it is to escaping.
use Rattle.std.proofs.Common.{◌≡◌, ℕ, zero, suc, ◌+◌, ◌-◌, ◌*◌, ◌/◌, ◌%◌, ◌^◌, ◌<◌, ◌≤◌, Bool, true, false, ◌||◌, ◌==◌, nat_le, nat_lt, List, [], ◌∷◌, ◌++◌, length, drop, get_or, Some, refl, sym, ap, ◌∙◌, arith, inl, inr, append_assoc}
use Rattle.std.specs.List.{flat_map, list_any, AllByRecursion}
use Rattle.std.proofs.lemmas.Bool.{cases_lt, cases_Bool}
use Rattle.std.proofs.lemmas.Bool.Decides.{nat_tests, eqb_tells}
use Rattle.std.proofs.lemmas.List.{append-nil, drop_all, drop_more}
use Rattle.jed_text.specs.Hexadecimal.{digit_of, digit_number, number_of_two, number_of_four}
use Rattle.jed_text.specs.Escape.{is_plain, escaped_unit, escaped_units, unit_written, unescaped_behind, unescaped_units}

-- ---- the loop

-- a unit that belongs to what stood before
pub unit_skipped : (u k : ℕ) (units : List ℕ) → 0 < k → unescaped_behind (k - 1) units ≡ unescaped_behind k (u ∷ units)
unfolding unescaped_behind
unit_skipped u zero units some = absurd (omega arith)
unit_skipped u (suc k) units some = let less : suc k - 1 ≡ k = omega arith in rw less refl

-- a unit that is taken, perhaps with some behind it
pub unit_taken : (out new units : List ℕ) (u k unit more : ℕ) → k ≤ 0 → unit ≡ (unit_written u units).0 → more ≡ (unit_written u units).1 → new ≡ out ++ unit ∷ []
    → new ++ unescaped_behind more units ≡ out ++ unescaped_behind k (u ∷ units)
unfolding unescaped_behind
unit_taken out new units u zero unit more none eu em put = rw (put, eu, em, append_assoc) refl
unit_taken out new units u (suc k) unit more none eu em put = absurd (omega arith)

unescaped_behind-nil : (k : ℕ) → unescaped_behind k [] ≡ []
unfolding unescaped_behind
unescaped_behind-nil zero = refl
unescaped_behind-nil (suc k) = refl

-- no unit is left
pub unescaped_end : (units out whole : List ℕ) (n k : ℕ) → length units ≤ n → out ++ unescaped_behind k (drop n units) ≡ whole → out ≡ whole
unescaped_end units out whole n k end held =
    let none : drop n units ≡ [] = drop_all n units end in
    sym (append-nil out) ∙ ap (λ (us : List ℕ). out ++ us) (sym (ap (unescaped_behind k) none ∙ unescaped_behind-nil k)) ∙ held

-- one unit further
pub unescaped_further : (units before after whole : List ℕ) (n k more : ℕ) → n < length units
    → before ++ unescaped_behind k (drop n units) ≡ whole
    → after ++ unescaped_behind more (drop (n + 1) units) ≡ before ++ unescaped_behind k (get_or units n 0 ∷ drop (n + 1) units)
    → after ++ unescaped_behind more (drop (n + 1) units) ≡ whole
unescaped_further units before after whole n k more lt held step =
    step ∙ ap (λ (us : List ℕ). before ++ unescaped_behind k us) (sym (drop_more units n 0 lt)) ∙ held

-- ---- units without a per cent sign

neither : (a b : Bool) → (a || b) ≡ false → (a ≡ false) × (b ≡ false)
neither true b h = absurd (cc)
neither false b h = (refl, h)

pub unescaped-plain : (units : List ℕ) → list_any (λ u. u == 37) units ≡ false → units ≡ unescaped_units units
unfolding unescaped_behind
unescaped-plain [] none = refl
unescaped-plain (u ∷ units) none =
    let parts = neither (u == 37) (list_any (λ u. u == 37) units) none in
    rw parts.0 (ap (λ (us : List ℕ). u ∷ us) (unescaped-plain units parts.1))

-- ---- what is escaped is unescaped

value_of-digit_of : (n : ℕ) → digit_number (digit_of n) ≡ Some (n % 16)
value_of-digit_of n = elim (cases_lt (n % 16) 10) [
  | inl low ↦
      let a : nat_lt (n % 16) 10 ≡ true = grind (arith, nat_tests) in
      let b : nat_le 48 (48 + n % 16) ≡ true = grind (arith, nat_tests) in
      let d : nat_le (48 + n % 16) 57 ≡ true = grind (arith, nat_tests) in
      let e : 48 + n % 16 - 48 ≡ n % 16 = omega arith in
      rw (a, b, d, e) refl
  | inr high ↦
      let a : nat_lt (n % 16) 10 ≡ false = grind (arith, nat_tests) in
      let less : n % 16 < 16 = omega arith in
      let b : nat_le 48 (55 + n % 16) ≡ true = grind (arith, nat_tests) in
      let d : nat_le (55 + n % 16) 57 ≡ false = grind (arith, nat_tests) in
      let f : nat_le 65 (55 + n % 16) ≡ true = grind (arith, nat_tests) in
      let g : nat_le (55 + n % 16) 70 ≡ true = grind (arith, nat_tests) in
      let e : 55 + n % 16 - 55 ≡ n % 16 = omega arith in
      rw (a, b, d, f, g, e) refl
]

-- a digit isn't `u`
digit_of-u : (n : ℕ) → digit_of n == 117 ≡ false
digit_of-u n = elim (cases_lt (n % 16) 10) [
  | inl low ↦
      let a : nat_lt (n % 16) 10 ≡ true = grind (arith, nat_tests) in
      let b : 48 + n % 16 == 117 ≡ false = grind (arith, nat_tests) in
      rw (a, b) refl
  | inr high ↦
      let a : nat_lt (n % 16) 10 ≡ false = grind (arith, nat_tests) in
      let less : n % 16 < 16 = omega arith in
      let b : 55 + n % 16 == 117 ≡ false = grind (arith, nat_tests) in
      rw (a, b) refl
]

-- a plain unit is no per cent sign
plain_sign : (u : ℕ) → is_plain u ≡ true → u == 37 ≡ false
plain_sign u plain = elim (eqb_tells u 37) [
  | inl same ↦ absurd (let e = rw same.1 at plain in cc)
  | inr other ↦ other.0
]

two : (u : ℕ) → u < 256 → number_of_two (digit_of (u / 16)) (digit_of u) ≡ Some u
two u lt =
    let whole : 16 * (u / 16 % 16) + u % 16 ≡ u = omega arith in
    rw (value_of-digit_of (u / 16), value_of-digit_of u, whole) refl

four : (u : ℕ) → u < 65536 → number_of_four (digit_of (u / 4096)) (digit_of (u / 256)) (digit_of (u / 16)) (digit_of u) ≡ Some u
four u lt =
    let whole : 256 * (16 * (u / 4096 % 16) + u / 256 % 16) + (16 * (u / 16 % 16) + u % 16) ≡ u = omega arith in
    rw (value_of-digit_of (u / 4096), value_of-digit_of (u / 256), value_of-digit_of (u / 16), value_of-digit_of u, whole) refl

unescaped_unit : (u : ℕ) (rest : List ℕ) → u < 65536 → unescaped_behind 0 (escaped_unit u ++ rest) ≡ u ∷ unescaped_behind 0 rest
unfolding unescaped_behind
unescaped_unit u rest lt = elim (cases_Bool (is_plain u)) [
  | inl plain ↦ rw (plain, plain_sign u plain) refl
  | inr other ↦ elim (cases_lt u 256) [
    | inl low ↦
        let a : nat_lt u 256 ≡ true = grind (arith, nat_tests) in
        let units : List ℕ = digit_of (u / 16) ∷ digit_of u ∷ rest in
        let long : nat_lt (length units) 2 ≡ false = grind (arith, nat_tests) in
        rw (other, a) (rw (long, digit_of-u (u / 16), two u low) refl)
    | inr high ↦
        let a : nat_lt u 256 ≡ false = grind (arith, nat_tests) in
        let units : List ℕ = digit_of (u / 4096) ∷ digit_of (u / 256) ∷ digit_of (u / 16) ∷ digit_of u ∷ rest in
        let long : nat_lt (length (117 ∷ units)) 2 ≡ false = grind (arith, nat_tests) in
        let longer : nat_lt (length units) 4 ≡ false = grind (arith, nat_tests) in
        rw (other, a) (rw (long, longer, four u lt) refl)
  ]
]

-- units of 16 bits
abbrev pub AreUnits : List ℕ → Type 0
AreUnits units = AllByRecursion (λ u. u < 2 ^ 16) units

pub unescaped-escaped : (units : List ℕ) → AreUnits units
    → unescaped_units (escaped_units units) ≡ units
unfolding escaped_units unescaped_behind
unescaped-escaped [] held = refl
unescaped-escaped (u ∷ units) held =
    unescaped_unit u (flat_map escaped_unit units) held.0 ∙ ap (λ (us : List ℕ). u ∷ us) (unescaped-escaped units held.1)
