-- What holds of each of the 256 bytes, by computing it for each.
use Rattle.std.proofs.Common.{◌≡◌, ℕ, zero, suc, ◌<◌, Bool, true, false, ◌&&◌, ◌||◌, refl, arith, inl, inr, ◌==◌, slice_index}
use Rattle.std.proofs.lemmas.Bool.{cases_lt, eqb-true}
use Rattle.std.proofs.lemmas.Bool.Decides.{nat_tests}
use Rattle.aes_ccm.specs.declared.substitution.TheConstants.{SUBSTITUTES}
use Rattle.aes_ccm.specs.declared.schedule.TheConstants.{POWERS}
use Rattle.aes_ccm.specs.Field.{sum_over_bits, product, power, inverse, affine_bits, substituted}

-- the test passes for each number below n
abbrev pub passes_below : (ℕ → Bool) → ℕ → Bool
passes_below test zero = true
passes_below test (suc n) = test n && passes_below test n

pub both : (a b : Bool) → (a && b) ≡ true → (a ≡ true) × (b ≡ true)
both true b h = (refl, h)
both false b h = absurd (cc)

pub passes_at : (test : ℕ → Bool) (n b : ℕ) → passes_below test n ≡ true → b < n → test b ≡ true
passes_at test zero b h lt = absurd (omega arith)
passes_at test (suc n) b h lt =
    let parts = both (test n) (passes_below test n) h in
    elim (cases_lt b n) [
      | inl below ↦ passes_at test n b parts.1 below
      | inr above ↦ let e : b ≡ n = omega arith in rw e parts.0
    ]

-- ---- inverses

inverse_all : passes_below (λ b. (b == 0) || (product b (inverse b) == 1)) 256 ≡ true
unfolding sum_over_bits power
inverse_all = refl

either : (a b : Bool) → (a || b) ≡ true → a ≡ false → b ≡ true
either true b h e = absurd (cc)
either false b h e = h

-- every byte but 0 has its inverse
pub product-inverse : (b : ℕ) → 0 < b → b < 256 → product b (inverse b) ≡ 1
product-inverse b some lt =
    let is_none : b == 0 ≡ false = grind (arith, nat_tests) in
    let test = passes_at (λ b. (b == 0) || (product b (inverse b) == 1)) 256 b inverse_all lt in
    eqb-true (product b (inverse b)) 1 (either (b == 0) (product b (inverse b) == 1) test is_none)

-- ---- substitutes and powers

substitutes_all : passes_below (λ b. slice_index SUBSTITUTES b == substituted b) 256 ≡ true
unfolding sum_over_bits power affine_bits substituted
substitutes_all = refl

pub substitutes : (b : ℕ) → b < 256 → slice_index SUBSTITUTES b ≡ substituted b
substitutes b lt = eqb-true (slice_index SUBSTITUTES b) (substituted b) (passes_at (λ b. slice_index SUBSTITUTES b == substituted b) 256 b substitutes_all lt)

powers_all : passes_below (λ j. slice_index POWERS j == power 2 j) 10 ≡ true
unfolding sum_over_bits power
powers_all = refl

pub powers : (j : ℕ) → j < 10 → slice_index POWERS j ≡ power 2 j
powers j lt = eqb-true (slice_index POWERS j) (power 2 j) (passes_at (λ j. slice_index POWERS j == power 2 j) 10 j powers_all lt)
