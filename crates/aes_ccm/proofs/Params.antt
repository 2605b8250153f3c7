-- Parameters of CCM, and the blocks that are made of a nonce.
use Rattle.std.proofs.Common.{◌≡◌, ℕ, suc, ◌+◌, ◌-◌, ◌*◌, ◌/◌, ◌<◌, ◌≤◌, Bool, true, false, List, ◌∷◌, ◌++◌, length, drop, set, nat_le, nat_lt, nat_eq, ◌==◌, ◌&&◌, ◌%◌, ◌^◌, refl, sym, ◌∙◌, arith, inl, inr}
use Rattle.std.proofs.lemmas.Bool.{cases_lt, leb-true}
use Rattle.std.proofs.lemmas.Bool.Decides.{nat_tests}
use Rattle.std.proofs.Math.Nat.{div-eq_of_lt, lt-mul-div-succ}
use Rattle.aes_ccm.specs.Ccm.{are_good}
use Rattle.aes_ccm.proofs.Bytes.{both}
use borrow.Rule.Slice.PartMut.{put_mid}

-- nothing is left of a number behind its lower places exactly if it is below the next
pub rest_is_none : (n d : ℕ) → 0 < d → nat_eq (n / d) 0 ≡ nat_lt n d
rest_is_none n d some = elim (cases_lt n d) [
  | inl lt ↦
      let none : n / d ≡ 0 = div-eq_of_lt lt in
      let yes : nat_lt n d ≡ true = grind (arith, nat_tests) in
      rw (none, yes) refl
  | inr ge ↦ elim (cases_lt 0 (n / d)) [
    | inl more ↦
        let a : nat_eq (n / d) 0 ≡ false = grind (arith, nat_tests) in
        let b : nat_lt n d ≡ false = grind (arith, nat_tests) in
        a ∙ sym b
    | inr none ↦
        let is_none : n / d ≡ 0 = omega arith in
        let below : n < d * (0 + 1) = rw is_none at (lt-mul-div-succ n some) in
        absurd (omega arith)
  ]
]

-- the flags and the nonce over the first bytes of a number
pub put_over : (x flags : ℕ) (tail nonce ys : List ℕ) → ys ≡ nonce
    → put_mid 1 (length nonce + 1 - 1) (set (x ∷ tail) 0 flags) ys ≡ flags ∷ nonce ++ drop (length nonce + 1) (x ∷ tail)
put_over x flags tail nonce ys e =
    let left : length nonce + 1 - 1 ≡ length nonce = omega arith in
    let more : length nonce + 1 ≡ suc (length nonce) = omega arith in
    rw (left, more, e) refl

-- what good parameters say of the lengths of nonce and tag
pub record HasGoodLengths (n t : ℕ) : Type 0 where
  pub nonce : n ≤ 14
  pub tag : t ≤ 16

pub good_lengths : (n t a p : ℕ) (r : Bool) → r ≡ are_good n t a p → r ≡ true → HasGoodLengths n t
good_lengths n t a p r e good =
    let six = both (nat_le 7 n && nat_le n 13 && nat_le 4 t && nat_le t 16 && t % 2 == 0 && nat_lt a 65280) (nat_lt p (2 ^ (8 * (15 - n)))) (sym e ∙ good) in
    let five = both (nat_le 7 n && nat_le n 13 && nat_le 4 t && nat_le t 16 && t % 2 == 0) (nat_lt a 65280) six.0 in
    let four = both (nat_le 7 n && nat_le n 13 && nat_le 4 t && nat_le t 16) (t % 2 == 0) five.0 in
    let three = both (nat_le 7 n && nat_le n 13 && nat_le 4 t) (nat_le t 16) four.0 in
    let two = both (nat_le 7 n && nat_le n 13) (nat_le 4 t) three.0 in
    let one = both (nat_le 7 n) (nat_le n 13) two.0 in
    record { nonce = omega (arith, leb-true n 13 one.1); tag = leb-true t 16 three.1 }
