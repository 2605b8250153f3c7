-- An escaped field is a field.
use Rattle.std.proofs.Common.{◌≡◌, ℕ, suc, ◌-◌, ◌<◌, ◌≤◌, true, false, eqb, List, [], ◌∷◌, ◌++◌, length, get_or, refl, sym, ap, ◌∙◌, subst, arith, inl, inr}
use Rattle.std.proofs.lemmas.Bool.{or_from, cond-true, cond-false, cases_Bool}
use Rattle.std.proofs.lemmas.Bool.Decides.{nat_tests}
use Rattle.std.proofs.lemmas.List.{append-nil, length-append}
use Rattle.item_text.specs.Lines.{has, is_blank, trimmed}
use Rattle.item_text.specs.Escape.{is_special, letter_of, escaped_byte, escaped}
use Rattle.item_text.specs.Valid.{IsField}
use Rattle.item_text.proofs.Blanks.{trimmed_ends, trimmed_first, trimmed_last}

letter_line : (b : ℕ) → is_special b ≡ true
    → (eqb (letter_of b) 10 ≡ false) × (is_blank (letter_of b) ≡ false)
letter_line b h = (grind (arith, nat_tests), grind (arith, nat_tests))

plain_line : (b : ℕ) → is_special b ≡ false → eqb b 10 ≡ false
plain_line b h = grind (arith, nat_tests)

special_is : (b : ℕ) → is_special b ≡ true → escaped_byte b ≡ 92 ∷ letter_of b ∷ []
special_is b h = cond-true (is_special b) (92 ∷ letter_of b ∷ []) (b ∷ []) h

plain_is : (b : ℕ) → is_special b ≡ false → escaped_byte b ≡ b ∷ []
plain_is b h = cond-false (is_special b) (92 ∷ letter_of b ∷ []) (b ∷ []) h

one_line : (value : List ℕ) → has 10 (escaped value) ≡ false
one_line [] = refl
one_line (b ∷ bs) =
    elim (cases_Bool (is_special b)) [
      | inl special ↦ ap (λ (x : List ℕ). has 10 (x ++ escaped bs)) (special_is b special)
          ∙ or_from (eqb (letter_of b) 10) (has 10 (escaped bs)) (letter_line b special).0
          (one_line bs)
      | inr other ↦ ap (λ (x : List ℕ). has 10 (x ++ escaped bs)) (plain_is b other)
          ∙ or_from (eqb b 10) (has 10 (escaped bs)) (plain_line b other) (one_line bs)
    ]

-- the last byte, or 0
last_of : List ℕ → ℕ
last_of [] = 0
last_of (b ∷ []) = b
last_of (b ∷ c ∷ bs) = last_of (c ∷ bs)

last_at : (text : List ℕ) → get_or text (length text - 1) 0 ≡ last_of text
unfolding last_of
last_at [] = refl
last_at (b ∷ []) = refl
last_at (b ∷ c ∷ bs) =
    let place : length (b ∷ c ∷ bs) - 1 ≡ suc (length (c ∷ bs) - 1) = omega arith in
    ap (λ (k : ℕ). get_or (b ∷ c ∷ bs) k 0) place ∙ last_at (c ∷ bs)

last-cons : (b : ℕ) (bs : List ℕ) → 0 < length bs → last_of (b ∷ bs) ≡ last_of bs
unfolding last_of
last-cons b [] some = absurd (omega arith)
last-cons b (c ∷ bs) some = refl

last-one : (b : ℕ) → last_of (b ∷ []) ≡ b
unfolding last_of
last-one b = refl

longer : (value : List ℕ) → length value ≤ length (escaped value)
longer [] = omega arith
longer (b ∷ bs) =
    let rest = longer bs in
    elim (cases_Bool (is_special b)) [
      | inl special ↦ let e =
          ap (λ (x : List ℕ). length (x ++ escaped bs)) (special_is b special) in
          omega (arith, e, rest)
      | inr other ↦ let e = ap (λ (x : List ℕ). length (x ++ escaped bs)) (plain_is b other) in
          omega (arith, e, rest)
    ]

-- the last byte of one that is escaped isn't blank if it wasn't
last_byte : (b : ℕ) → is_blank b ≡ false → is_blank (last_of (escaped_byte b)) ≡ false
last_byte b h =
    elim (cases_Bool (is_special b)) [
      | inl special ↦ ap (λ (x : List ℕ). is_blank (last_of x)) (special_is b special)
          ∙ ap is_blank (last-cons 92 (letter_of b ∷ []) (omega arith) ∙ last-one (letter_of b))
          ∙ (letter_line b special).1
      | inr other ↦ ap (λ (x : List ℕ). is_blank (last_of x)) (plain_is b other)
          ∙ ap is_blank (last-one b) ∙ h
    ]

last-append : (xs ys : List ℕ) → 0 < length ys → last_of (xs ++ ys) ≡ last_of ys
last-append [] ys some = refl
last-append (x ∷ xs) ys some = last-cons x (xs ++ ys) (omega (arith, length-append xs ys))
    ∙ last-append xs ys some

last_escaped : (value : List ℕ) → 0 < length value → is_blank (last_of value) ≡ false
    → is_blank (last_of (escaped value)) ≡ false
last_escaped [] some h = absurd (omega arith)
last_escaped (b ∷ []) some h =
    ap (λ (x : List ℕ). is_blank (last_of x)) (append-nil (escaped_byte b))
    ∙ last_byte b (ap is_blank (sym (last-one b)) ∙ h)
last_escaped (b ∷ c ∷ bs) some h =
    let long = longer (c ∷ bs) in
    ap is_blank (last-append (escaped_byte b) (escaped (c ∷ bs)) (omega (arith, long)))
    ∙ last_escaped (c ∷ bs) (omega arith)
    (ap is_blank (sym (last-cons b (c ∷ bs) (omega arith))) ∙ h)

first_escaped : (value : List ℕ) → 0 < length value → is_blank (get_or value 0 0) ≡ false
    → is_blank (get_or (escaped value) 0 0) ≡ false
first_escaped [] some h = absurd (omega arith)
first_escaped (b ∷ bs) some h =
    elim (cases_Bool (is_special b)) [
      | inl special ↦
          ap (λ (x : List ℕ). is_blank (get_or (x ++ escaped bs) 0 0)) (special_is b special)
      | inr other ↦ ap (λ (x : List ℕ). is_blank (get_or (x ++ escaped bs) 0 0)) (plain_is b other)
          ∙ h
    ]

some_value : (value : List ℕ) → 0 < length (escaped value) → 0 < length value
some_value [] some = absurd (omega arith)
some_value (b ∷ bs) some = omega arith

pub escaped_field : (value : List ℕ) → trimmed value ≡ value → IsField (escaped value)
escaped_field value same =
    let P : List ℕ → Type 0 = λ t. 0 < length t → is_blank (get_or t 0 0) ≡ false in
    let Q : List ℕ → Type 0 = λ t. 0 < length t → is_blank (get_or t (length t - 1) 0) ≡ false in
    let first : P value = subst P same (trimmed_first value) in
    let last : Q value = subst Q same (trimmed_last value) in
    record {
      one_line = one_line value;
      is_trimmed = trimmed_ends (escaped value)
          (λ some. let given = some_value value some in first_escaped value given (first given))
          (λ some. let given = some_value value some in ap is_blank (last_at (escaped value))
          ∙ last_escaped value given (ap is_blank (sym (last_at value)) ∙ last given));
    }
