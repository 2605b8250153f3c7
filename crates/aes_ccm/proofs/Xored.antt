-- Lists added bit by bit.
use Rattle.std.proofs.Common.{◌≡◌, ℕ, zero, suc, ◌+◌, ◌-◌, ◌<◌, ◌≤◌, List, [], ◌∷◌, ◌++◌, length, take, drop, replicate, get_or, set, refl, sym, ap, ◌∙◌, arith, bit_xor, inl, inr, min, length-drop, take-append-drop}
use Rattle.std.proofs.lemmas.Bool.{cases_lt}
use Rattle.std.proofs.lemmas.List.{length-take-le, get_or-append_right, set-append_right, take_all}
use Rattle.std.specs.Int.Bits.{xor_assoc, xor_self, xor_zero_l, xor_zero_r}
use Rattle.aes_ccm.specs.Lists.{xored}

pub length-xored : (xs ys : List ℕ) → length (xored xs ys) ≡ length xs
unfolding xored
length-xored [] ys = refl
length-xored (x ∷ xs) [] = refl
length-xored (x ∷ xs) (y ∷ ys) = ap suc (length-xored xs ys)

pub xored-nil : (xs : List ℕ) → xored xs [] ≡ xs
unfolding xored
xored-nil [] = refl
xored-nil (x ∷ xs) = refl

-- one more byte added
pub xored-take_more : (xs ys : List ℕ) (n : ℕ) → n < length xs → n < length ys
    → xored xs (take (suc n) ys) ≡ set (xored xs (take n ys)) n (bit_xor (get_or xs n 0) (get_or ys n 0))
unfolding xored
xored-take_more [] ys n h k = absurd (omega arith)
xored-take_more (x ∷ xs) [] n h k = absurd (omega arith)
xored-take_more (x ∷ xs) (y ∷ ys) zero h k = ap (λ (zs : List ℕ). bit_xor x y ∷ zs) (xored-nil xs)
xored-take_more (x ∷ xs) (y ∷ ys) (suc n) h k = ap (λ (zs : List ℕ). bit_xor x y ∷ zs) (xored-take_more xs ys n (omega arith) (omega arith))

-- what isn't reached yet stays
pub get_or-xored-take : (xs ys : List ℕ) (n : ℕ) → get_or (xored xs (take n ys)) n 0 ≡ get_or xs n 0
unfolding xored
get_or-xored-take [] ys n = refl
get_or-xored-take (x ∷ xs) ys zero = refl
get_or-xored-take (x ∷ xs) [] (suc n) = refl
get_or-xored-take (x ∷ xs) (y ∷ ys) (suc n) = get_or-xored-take xs ys n

-- bytes of the other list beyond the first don't matter
pub xored-take_rest : (xs ys : List ℕ) (n : ℕ) → length xs ≤ n → xored xs (take n ys) ≡ xored xs ys
unfolding xored
xored-take_rest [] ys n h = refl
xored-take_rest (x ∷ xs) ys zero h = absurd (omega arith)
xored-take_rest (x ∷ xs) [] (suc n) h = refl
xored-take_rest (x ∷ xs) (y ∷ ys) (suc n) h = ap (λ (zs : List ℕ). bit_xor x y ∷ zs) (xored-take_rest xs ys n (omega arith))

-- a list behind another is added behind the first one's length
pub xored-append : (xs ys zs : List ℕ) → length ys ≤ length xs
    → xored xs (ys ++ zs) ≡ take (length ys) (xored xs ys) ++ xored (drop (length ys) (xored xs ys)) zs
unfolding xored
xored-append xs [] zs h = rw (xored-nil xs) refl
xored-append [] (y ∷ ys) zs h = absurd (omega arith)
xored-append (x ∷ xs) (y ∷ ys) zs h = ap (λ (ws : List ℕ). bit_xor x y ∷ ws) (xored-append xs ys zs (omega arith))

-- adding a list twice changes nothing
pub xored-xored : (xs ys : List ℕ) → xored (xored xs ys) ys ≡ xs
unfolding xored
xored-xored [] ys = refl
xored-xored (x ∷ xs) [] = refl
xored-xored (x ∷ xs) (y ∷ ys) = rw (xored-xored xs ys, xor_assoc x y y, xor_self y, xor_zero_r x) refl

xored-nil_take : (xs : List ℕ) (n : ℕ) → xored xs (take n []) ≡ xs
xored-nil_take xs zero = xored-nil xs
xored-nil_take xs (suc n) = xored-nil xs

-- zeros behind a list change nothing
pub xored-take_zeros : (xs ys : List ℕ) (n k : ℕ) → xored xs (take n (ys ++ replicate k 0)) ≡ xored xs (take n ys)
unfolding xored
xored-take_zeros [] ys n k = refl
xored-take_zeros (x ∷ xs) ys zero k = refl
xored-take_zeros (x ∷ xs) [] (suc n) zero = refl
xored-take_zeros (x ∷ xs) [] (suc n) (suc k) = rw (xor_zero_r x) (ap (λ (zs : List ℕ). x ∷ zs) (xored-take_zeros xs [] n k ∙ xored-nil_take xs n))
xored-take_zeros (x ∷ xs) (y ∷ ys) (suc n) k = ap (λ (zs : List ℕ). bit_xor x y ∷ zs) (xored-take_zeros xs ys n k)

-- a turn of a loop that adds byte by byte from a place on
pub xored_step : (old text other : List ℕ) (p n : ℕ) → text ≡ take p old ++ xored (drop p old) (take n other)
    → p ≤ length old → n < length old - p → n < length other
    → set text (p + n) (bit_xor (get_or text (p + n) 0) (get_or other n 0)) ≡ take p old ++ xored (drop p old) (take (n + 1) other)
xored_step old text other p n held fits room some =
    let rest : List ℕ = xored (drop p old) (take n other) in
    let lp : length (take p old) ≡ p = length-take-le p old fits in
    let ld : n < length (drop p old) = omega (arith, length-drop p old) in
    let place : p + n - p ≡ n = omega arith in
    let got : get_or text (p + n) 0 ≡ get_or (drop p old) n 0 =
    rw held (get_or-append_right (take p old) rest p (p + n) 0 lp (omega arith) ∙ ap (λ (k : ℕ). get_or rest k 0) place ∙ get_or-xored-take (drop p old) other n) in
    let b : ℕ = bit_xor (get_or (drop p old) n 0) (get_or other n 0) in
    let e : n + 1 ≡ suc n = omega arith in
    rw (got, e) (rw held (set-append_right (take p old) rest p (p + n) b lp (omega arith)
    ∙ ap (λ (k : ℕ). take p old ++ set rest k b) place
    ∙ ap (λ (zs : List ℕ). take p old ++ zs) (sym (xored-take_more (drop p old) other n ld some))))

-- the end of that loop
pub xored_end : (old text other : List ℕ) (p n : ℕ) → text ≡ take p old ++ xored (drop p old) (take n other)
    → min (length other) (length old - p) ≤ n → text ≡ take p old ++ xored (drop p old) other
xored_end old text other p n held end =
    elim (cases_lt n (length other)) [
      | inl more ↦
          let ld : length (drop p old) ≤ n = omega (arith, length-drop p old) in
          held ∙ ap (λ (zs : List ℕ). take p old ++ zs) (xored-take_rest (drop p old) other n ld)
      | inr all ↦ held ∙ ap (λ (zs : List ℕ). take p old ++ xored (drop p old) zs) (take_all n other all)
    ]

-- zeros added to a list are that list, as far as they go
pub xored-replicate : (n : ℕ) (ys : List ℕ) → length ys ≤ n → xored (replicate n 0) ys ≡ ys ++ replicate (n - length ys) 0
unfolding xored
xored-replicate n [] h = let e : n - 0 ≡ n = omega arith in rw e (xored-nil (replicate n 0))
xored-replicate zero (y ∷ ys) h = absurd (omega arith)
xored-replicate (suc n) (y ∷ ys) h =
    let e : suc n - suc (length ys) ≡ n - length ys = omega arith in
    rw (xor_zero_l y, e, xored-replicate n ys (omega arith)) refl

pub take-xored : (n : ℕ) (xs ys : List ℕ) → take n (xored xs ys) ≡ xored (take n xs) ys
unfolding xored
take-xored zero xs ys = refl
take-xored (suc n) [] ys = refl
take-xored (suc n) (x ∷ xs) [] = refl
take-xored (suc n) (x ∷ xs) (y ∷ ys) = ap (λ (zs : List ℕ). bit_xor x y ∷ zs) (take-xored n xs ys)

-- what stands behind the other list stays
pub drop-xored : (xs ys : List ℕ) (k : ℕ) → length ys ≤ k → drop k (xored xs ys) ≡ drop k xs
unfolding xored
drop-xored [] ys k h = refl
drop-xored (x ∷ xs) [] k h = refl
drop-xored (x ∷ xs) (y ∷ ys) zero h = absurd (omega arith)
drop-xored (x ∷ xs) (y ∷ ys) (suc k) h = drop-xored xs ys k (omega arith)

pub xored-short : (xs ys : List ℕ) (n : ℕ) → length ys ≤ n → xored xs ys ≡ xored (take n xs) ys ++ drop n xs
unfolding xored
xored-short [] ys zero h = refl
xored-short [] ys (suc n) h = refl
xored-short (x ∷ xs) [] n h = rw (xored-nil (take n (x ∷ xs))) (sym (take-append-drop n (x ∷ xs)))
xored-short (x ∷ xs) (y ∷ ys) zero h = absurd (omega arith)
xored-short (x ∷ xs) (y ∷ ys) (suc n) h = ap (λ (zs : List ℕ). bit_xor x y ∷ zs) (xored-short xs ys n (omega arith))
