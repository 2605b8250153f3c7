-- The topmost pair of a key.
use Rattle.std.proofs.Common.{◌≡◌, ℕ, suc, ◌+◌, ◌<◌, ◌≤◌, Bool, ltb, false, not, List, [], ◌∷◌, length, get_or, Option, Some, None, refl, sym, ap, ◌∙◌, arith, inl, inr}
use borrow.Author.Tests.{ltb-true, ltb-false}
use Rattle.std.specs.Prelude.{slice_set, position, unwrap_or}
use Rattle.std.specs.List.{position_or_len, insert, list_any}
use Rattle.std.proofs.lemmas.Bool.{cases_Bool, cond-true, cond-false, not_from_true, not_from_false, or_parts}
use Rattle.std.proofs.lemmas.List.Sums.{prefix_len-le-length}
use Rattle.item_text.specs.declared.item.Prop.{Prop}
use Rattle.item_text.specs.Props.{has_key, value_of, replaced, inserted, with_prop, type_key}
use Rattle.item_text.proofs.Positions.{none_from_position, some_from_position}

place_fits : (key : List ℕ) (ps : List Prop) → position_or_len (has_key key) ps ≤ length ps
place_fits key ps = prefix_len-le-length (λ p. not (has_key key p)) ps

-- the pair at that place
value_there : (key : List ℕ) (ps : List Prop) (d : Prop)
    → position_or_len (has_key key) ps < length ps
    → value_of key ps ≡ Some (get_or ps (position_or_len (has_key key) ps) d).value
unfolding value_of
value_there key [] d lt = absurd (omega arith)
value_there key (p ∷ ps) d lt =
    let n : ℕ = position_or_len (has_key key) ps in
    let more : 1 + n ≡ suc n = omega arith in
    elim (cases_Bool (has_key key p)) [
      | inl hit ↦
          cond-true (has_key key p) (Some p.value) (value_of key ps) hit
          ∙ sym (ap (λ (k : ℕ). Some (get_or (p ∷ ps) k d).value)
          (cond-false (not (has_key key p)) (1 + n) 0 (not_from_true (has_key key p) hit)))
      | inr miss ↦
          let place : position_or_len (has_key key) (p ∷ ps) ≡ suc n =
          cond-true (not (has_key key p)) (1 + n) 0 (not_from_false (has_key key p) miss)
          ∙ more in
          cond-false (has_key key p) (Some p.value) (value_of key ps) miss
          ∙ value_there key ps d (omega arith)
          ∙ sym (ap (λ (k : ℕ). Some (get_or (p ∷ ps) k d).value) place)
    ]

value_nowhere : (key : List ℕ) (ps : List Prop) → list_any (has_key key) ps ≡ false
    → value_of key ps ≡ None
unfolding value_of
value_nowhere key [] h = refl
value_nowhere key (p ∷ ps) h =
    let parts = or_parts (has_key key p) (list_any (has_key key) ps) h in
    cond-false (has_key key p) (Some p.value) (value_of key ps) parts.0
    ∙ value_nowhere key ps parts.1

-- what the code does at the places that it finds
replaced_is : (p : Prop) (ps : List Prop)
    → slice_set ps (position_or_len (has_key p.key) ps) p ≡ replaced p ps
unfolding replaced
replaced_is p [] = refl
replaced_is p (q ∷ qs) =
    let n : ℕ = position_or_len (has_key p.key) qs in
    let more : 1 + n ≡ suc n = omega arith in
    elim (cases_Bool (has_key p.key q)) [
      | inl hit ↦
          ap (λ (k : ℕ). slice_set (q ∷ qs) k p)
          (cond-false (not (has_key p.key q)) (1 + n) 0 (not_from_true (has_key p.key q) hit))
          ∙ sym (cond-true (has_key p.key q) (p ∷ qs) (q ∷ replaced p qs) hit)
      | inr miss ↦
          ap (λ (k : ℕ). slice_set (q ∷ qs) k p)
          (cond-true (not (has_key p.key q)) (1 + n) 0 (not_from_false (has_key p.key q) miss)
          ∙ more)
          ∙ ap (λ (rest : List Prop). q ∷ rest) (replaced_is p qs)
          ∙ sym (cond-false (has_key p.key q) (p ∷ qs) (q ∷ replaced p qs) miss)
    ]

inserted_is : (p : Prop) (ps : List Prop)
    → insert ps (position_or_len (has_key type_key) ps) p ≡ inserted p ps
unfolding inserted
inserted_is p [] = refl
inserted_is p (q ∷ qs) =
    let n : ℕ = position_or_len (has_key type_key) qs in
    let more : 1 + n ≡ suc n = omega arith in
    elim (cases_Bool (has_key type_key q)) [
      | inl hit ↦
          ap (λ (k : ℕ). insert (q ∷ qs) k p)
          (cond-false (not (has_key type_key q)) (1 + n) 0
          (not_from_true (has_key type_key q) hit))
          ∙ sym (cond-true (has_key type_key q) (p ∷ q ∷ qs) (q ∷ inserted p qs) hit)
      | inr miss ↦
          ap (λ (k : ℕ). insert (q ∷ qs) k p)
          (cond-true (not (has_key type_key q)) (1 + n) 0
          (not_from_false (has_key type_key q) miss) ∙ more)
          ∙ ap (λ (rest : List Prop). q ∷ rest) (inserted_is p qs)
          ∙ sym (cond-false (has_key type_key q) (p ∷ q ∷ qs) (q ∷ inserted p qs) miss)
    ]

-- what the place of a test says
place_some : {X : Type 0} (test : X → Bool) (xs : List X) (i : ℕ) → position test xs ≡ Some i
    → (i ≡ position_or_len test xs) × (position_or_len test xs < length xs)
place_some test xs i e =
    let n : ℕ = position_or_len test xs in
    elim (cases_Bool (ltb n (length xs))) [
      | inl hit ↦ let at : Some n ≡ Some i = sym (cond-true (ltb n (length xs)) (Some n) None hit)
          ∙ e in (cc, ltb-true n (length xs) hit)
      | inr miss ↦
          absurd (let none : None ≡ Some i = sym (cond-false (ltb n (length xs)) (Some n) None miss)
          ∙ e in cc)
    ]

place_none : {X : Type 0} (test : X → Bool) (xs : List X) → position test xs ≡ None
    → length xs ≤ position_or_len test xs
place_none test xs e =
    let n : ℕ = position_or_len test xs in
    elim (cases_Bool (ltb n (length xs))) [
      | inl hit ↦ absurd
          (let some : Some n ≡ None = sym (cond-true (ltb n (length xs)) (Some n) None hit) ∙ e in
          cc)
      | inr miss ↦ ltb-false n (length xs) miss
    ]

place_or_end : (key : List ℕ) (ps : List Prop)
    → unwrap_or (position (has_key key) ps) (length ps) ≡ position_or_len (has_key key) ps
place_or_end key ps =
    let n : ℕ = position_or_len (has_key key) ps in
    elim (cases_Bool (ltb n (length ps))) [
      | inl hit ↦ ap (λ (o : Option ℕ). unwrap_or o (length ps))
          (cond-true (ltb n (length ps)) (Some n) None hit)
      | inr miss ↦
          let fits = place_fits key ps in
          let past = ltb-false n (length ps) miss in
          let same : length ps ≡ n = omega arith in
          ap (λ (o : Option ℕ). unwrap_or o (length ps))
          (cond-false (ltb n (length ps)) (Some n) None miss) ∙ same
    ]

none_past : (key : List ℕ) (ps : List Prop) → position (has_key key) ps ≡ None
    → list_any (has_key key) ps ≡ false
none_past key ps e =
    let past = place_none (has_key key) ps e in
    let fits = place_fits key ps in
    none_from_position (has_key key) ps (omega arith)

pub with_set : (p : Prop) (ps : List Prop) (place : ℕ) → position (has_key p.key) ps ≡ Some place
    → with_prop p ps ≡ slice_set ps place p
unfolding with_prop
with_set p ps place e =
    let at = place_some (has_key p.key) ps place e in
    cond-true (list_any (has_key p.key) ps) (replaced p ps) (inserted p ps)
    (some_from_position (has_key p.key) ps at.1)
    ∙ sym (replaced_is p ps) ∙ ap (λ (n : ℕ). slice_set ps n p) (sym at.0)

pub with_insert : (p : Prop) (ps : List Prop) → position (has_key p.key) ps ≡ None
    → with_prop p ps ≡ insert ps (unwrap_or (position (has_key type_key) ps) (length ps)) p
unfolding with_prop
with_insert p ps e =
    cond-false (list_any (has_key p.key) ps) (replaced p ps) (inserted p ps) (none_past p.key ps e)
    ∙ sym (inserted_is p ps) ∙ ap (λ (n : ℕ). insert ps n p) (sym (place_or_end type_key ps))

pub value_found : (key : List ℕ) (ps : List Prop) (place : ℕ) (d : Prop)
    → position (has_key key) ps ≡ Some place → value_of key ps ≡ Some (get_or ps place d).value
value_found key ps place d e =
    let at = place_some (has_key key) ps place e in
    value_there key ps d at.1 ∙ ap (λ (k : ℕ). Some (get_or ps k d).value) (sym at.0)

pub value_none : (key : List ℕ) (ps : List Prop) → position (has_key key) ps ≡ None
    → value_of key ps ≡ None
value_none key ps e = value_nowhere key ps (none_past key ps e)
