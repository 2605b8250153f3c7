-- Counting up from the last digit on.
use Rattle.std.proofs.Common.{◌≡◌, ◌<◌, ◌≤◌, ◌+◌, ◌-◌, ◌*◌, ◌^◌, ◌%◌, ◌∙◌, sym, ap, subst, arith, ℕ, suc, List, [], ◌∷◌, ◌++◌, length, true, take, drop, set, get_or, length-append, length-drop, length-set, take-take, add-one, drop-cons}
use Rattle.std.proofs.Math.Nat.{pow-suc, mul-le-mul_right, mod-eq_of_lt, add-mod_right}
use Rattle.std.proofs.lemmas.Nat.{pow-add}
use Rattle.std.proofs.lemmas.List.{get_or-take, drop-set, take-set, set_split, take-append-drop}
use Rattle.std.proofs.lemmas.Bool.Decides.{nat_tests}
use Rattle.jop_base.specs.Id.{is_digit, AreDigits, digit_value, digit_after, number_of}

-- ---- digits

digit_value-le : (d : ℕ) → is_digit d ≡ true → digit_value d ≤ 15
digit_value-le d is = grind (arith, nat_tests)

digit_value-after : (d : ℕ)
    → is_digit d ≡ true → ¬ (d ≡ 102) → digit_value (digit_after d) ≡ digit_value d + 1
digit_value-after d is more = grind (arith, nat_tests)

pub is_digit-after : (d : ℕ) → is_digit d ≡ true → is_digit (digit_after d) ≡ true
is_digit-after d is = grind (arith, nat_tests)

-- ---- numbers

regroup : (v a b n m : ℕ) → v * (a * b) + (n * b + m) ≡ (v * a + n) * b + m
regroup v a b n m = omega arith

number_of-append : (xs ys : List ℕ)
    → number_of (xs ++ ys) ≡ number_of xs * 16 ^ length ys + number_of ys
number_of-append [] ys = omega arith
number_of-append (x ∷ xs) ys =
    let long = length-append xs ys in
    let power = pow-add 16 (length xs) (length ys) in
    let later = number_of-append xs ys in
    let sum =
    regroup (digit_value x) (16 ^ length xs) (16 ^ length ys) (number_of xs) (number_of ys) in
    cc

pub number_of-lt : (xs : List ℕ) → AreDigits xs → number_of xs < 16 ^ length xs
number_of-lt [] digits = omega arith
number_of-lt (x ∷ xs) digits =
    let rest = number_of-lt xs (λ k d lt. digits (suc k) d (omega arith)) in
    let first = mul-le-mul_right (16 ^ length xs) (digit_value-le x (digits 0 0 (omega arith))) in
    omega (arith, pow-suc 16 (length xs), rest, first)

raised : (v p n m : ℕ) → n + p ≡ m + 1 → (v + 1) * p + n ≡ v * p + m + 1
raised v p n m carried = omega arith

-- ---- one digit more: `back` stands where `old` stood, counted up and wrapped

record IsCarried (back old : List ℕ) : Type 0 where
  long : length back ≡ length old
  carried : number_of back + 16 ^ length back ≡ number_of old + 1

number_of-counted : (d : ℕ) (back old : List ℕ)
    → is_digit d ≡ true → ¬ (d ≡ 102) → IsCarried back old
    → number_of (digit_after d ∷ back) ≡ number_of (d ∷ old) + 1
number_of-counted d back old is more at =
    let value = digit_value-after d is more in
    let same : 16 ^ length back ≡ 16 ^ length old = cc in
    let sum =
    raised (digit_value d) (16 ^ length back) (number_of back) (number_of old) at.carried in
    ap (λ (v : ℕ). v * 16 ^ length back + number_of back) value ∙ cc

number_of-wrapped : (back old : List ℕ) → IsCarried back old
    → number_of (48 ∷ back) + 16 ^ suc (length back) ≡ number_of (102 ∷ old) + 1
number_of-wrapped back old at =
    let same : 16 ^ length back ≡ 16 ^ length old = cc in
    omega (arith, pow-suc 16 (length back), at.carried)

number_of-behind : (front xs ys : List ℕ)
    → length xs ≡ length ys → number_of xs ≡ number_of ys + 1
    → number_of (front ++ xs) ≡ number_of (front ++ ys) + 1
number_of-behind front xs ys long more =
    let new = number_of-append front xs in
    let was = number_of-append front ys in
    let same : number_of front * 16 ^ length xs ≡ number_of front * 16 ^ length ys = cc in
    omega arith

-- ---- the loop: from place q on the digits have been counted up and wrapped

pub record IsWrapped (digits old : List ℕ) (q : ℕ) : Type 0 where
  pub long : length digits ≡ 32
  pub old_long : length old ≡ 32
  pub within : q ≤ 32
  pub front : take q digits ≡ take q old
  pub wrapped : number_of (drop q digits) + 16 ^ (32 - q) ≡ number_of (drop q old) + 1

is_carried : (digits old : List ℕ) (q : ℕ)
    → IsWrapped digits old q → IsCarried (drop q digits) (drop q old)
is_carried digits old q at =
    let back : length (drop q digits) ≡ 32 - q = omega (arith, length-drop q digits, at.long) in
    let was : length (drop q old) ≡ 32 - q = omega (arith, length-drop q old, at.old_long) in
    let wrapped = at.wrapped in
    record { long = back ∙ sym was; carried = cc }

same_digit : (digits old : List ℕ) (p q : ℕ)
    → q ≡ p + 1 → take q digits ≡ take q old → get_or digits p 0 ≡ get_or old p 0
same_digit digits old p q next front =
    let new = get_or-take q digits p 0 (omega arith) in
    let was = get_or-take q old p 0 (omega arith) in
    cc

drop-next : (l : List ℕ) (p q : ℕ) → q ≡ p + 1 → p < length l → drop p l ≡ get_or l p 0 ∷ drop q l
drop-next l p q next lt =
    let one = add-one p in
    let split = drop-cons l p 0 lt in
    cc

take-less : (digits old : List ℕ) (p q : ℕ)
    → p ≤ q → take q digits ≡ take q old → take p digits ≡ take p old
take-less digits old p q less front =
    let new = take-take p q digits less in
    let was = take-take p q old less in
    cc

pub wraps_on : (digits old : List ℕ) (p q : ℕ)
    → q ≡ p + 1 → IsWrapped digits old q → get_or digits p 0 ≡ 102
    → IsWrapped (set digits p 48) old p
wraps_on digits old p q next at is = record {
  long = length-set digits p 48 ∙ at.long;
  old_long = at.old_long;
  within = omega (arith, at.within);
  front = take-set digits p 48 ∙ take-less digits old p q (omega arith) at.front;
  wrapped =
      let carried = is_carried digits old q at in
      let new : drop p (set digits p 48) ≡ 48 ∷ drop q digits =
      let split = drop-set digits p 48 (omega (arith, at.within, at.long)) in cc in
      let was : drop p old ≡ 102 ∷ drop q old =
      let split = drop-next old p q next (omega (arith, at.within, at.old_long)) in
      let digit = same_digit digits old p q next at.front in
      cc in
      let long : 32 - p ≡ suc (length (drop q digits)) =
      omega (arith, length-drop q digits, at.long, at.within) in
      ap (λ (l : List ℕ). number_of l + 16 ^ (32 - p)) new
      ∙ (ap (λ (n : ℕ). number_of (48 ∷ drop q digits) + 16 ^ n) long
      ∙ (number_of-wrapped (drop q digits) (drop q old) carried
      ∙ ap (λ (l : List ℕ). number_of l + 1) (sym was)));
}

pub counts_on : (digits old : List ℕ) (p q : ℕ)
    → q ≡ p + 1 → IsWrapped digits old q
    → is_digit (get_or digits p 0) ≡ true → ¬ (get_or digits p 0 ≡ 102)
    → number_of (set digits p (digit_after (get_or digits p 0))) ≡ number_of old + 1
counts_on digits old p q next at is more =
    let d = get_or digits p 0 in
    let carried = is_carried digits old q at in
    let new : set digits p (digit_after d) ≡ take p digits ++ digit_after d ∷ drop q digits =
    let one = add-one p in
    let split = set_split digits p (digit_after d) (omega (arith, at.within, at.long)) in
    cc in
    let was : take p digits ++ d ∷ drop q old ≡ old =
    let split = drop-next old p q next (omega (arith, at.within, at.old_long)) in
    let digit = same_digit digits old p q next at.front in
    let front = take-less digits old p q (omega arith) at.front in
    let whole = take-append-drop p old in
    cc in
    let counted = number_of-counted d (drop q digits) (drop q old) is more carried in
    ap number_of new
    ∙ (number_of-behind (take p digits) (digit_after d ∷ drop q digits) (d ∷ drop q old)
    (ap suc carried.long) counted
    ∙ ap (λ (l : List ℕ). number_of l + 1) was)

-- ---- the remainder

number_of-id : (digits : List ℕ) → length digits ≡ 32 → AreDigits digits
    → number_of digits < 16 ^ 32
number_of-id digits long are =
    subst (λ (k : ℕ). number_of digits < 16 ^ k) long (number_of-lt digits are)

pub is_remainder : (digits : List ℕ) (n : ℕ)
    → length digits ≡ 32 → AreDigits digits → number_of digits ≡ n → number_of digits ≡ n % 16 ^ 32
is_remainder digits n long are is =
    sym (mod-eq_of_lt (number_of-id digits long are)) ∙ ap (λ (k : ℕ). k % 16 ^ 32) is

pub wrapped_remainder : (digits : List ℕ) (n : ℕ)
    → length digits ≡ 32 → AreDigits digits → number_of digits + 16 ^ 32 ≡ n
    → number_of digits ≡ n % 16 ^ 32
wrapped_remainder digits n long are is =
    sym (mod-eq_of_lt (number_of-id digits long are))
    ∙ (sym (add-mod_right (number_of digits) (16 ^ 32)) ∙ ap (λ (k : ℕ). k % 16 ^ 32) is)
