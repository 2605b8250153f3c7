-- The values under a name, field by field.
use Rattle.std.proofs.Common.{◌≡◌, ℕ, ◌+◌, ◌<◌, ◌≤◌, List, [], ◌∷◌, ◌++◌, Bool, true, false, cond, length, map, take, get_or, refl, ap, ◌∙◌, sym, subst, arith}
use Rattle.std.specs.Prelude.{◌||◌}
use Rattle.std.specs.List.{list_any}
use Rattle.std.specs.Borrow.{Bor}
use Rattle.std.proofs.lemmas.Bool.{or_right}
use Rattle.std.proofs.lemmas.List.{take_more, map-append, length-append}
use Rattle.httparse.specs.declared.spans.HeaderSpan.{HeaderSpan}
use Rattle.httparse.specs.Spans.{header_bytes, span_bytes}
use Rattle.dav_parts.specs.declared.field.FieldValue.{FieldValue}
use Rattle.dav_parts.specs.declared.field.FieldValue.TheVariants.{Absent, Single, Repeated}
use Rattle.dav_parts.specs.Fields.{is_same_name, values_of, AreValues}

pub values_push_yes : (name : List ℕ) (fields : List (List ℕ × List ℕ)) (field : List ℕ × List ℕ)
    → is_same_name field.0 name ≡ true → values_of name (fields ++ field ∷ [])
    ≡ values_of name fields ++ field.1 ∷ []
unfolding values_of
values_push_yes name [] field h = ap (λ (b : Bool). cond b (field.1 ∷ []) []) h
values_push_yes name (first ∷ fields) field h = go (is_same_name first.0 name)
    (values_push_yes name fields field h)
  where
    go : (b : Bool) → values_of name (fields ++ field ∷ []) ≡ values_of name fields ++ field.1 ∷ []
        → cond b (first.1 ∷ values_of name (fields ++ field ∷ []))
        (values_of name (fields ++ field ∷ [])) ≡ cond b (first.1 ∷ values_of name fields)
        (values_of name fields) ++ field.1 ∷ []
    go true e = ap (λ (vs : List (List ℕ)). first.1 ∷ vs) e
    go false e = e

pub values_push_no : (name : List ℕ) (fields : List (List ℕ × List ℕ)) (field : List ℕ × List ℕ)
    → is_same_name field.0 name ≡ false → values_of name (fields ++ field ∷ [])
    ≡ values_of name fields
unfolding values_of
values_push_no name [] field h = ap (λ (b : Bool). cond b (field.1 ∷ []) []) h
values_push_no name (first ∷ fields) field h = go (is_same_name first.0 name)
    (values_push_no name fields field h)
  where
    go : (b : Bool) → values_of name (fields ++ field ∷ []) ≡ values_of name fields
        → cond b (first.1 ∷ values_of name (fields ++ field ∷ []))
        (values_of name (fields ++ field ∷ [])) ≡ cond b (first.1 ∷ values_of name fields)
        (values_of name fields)
    go true e = ap (λ (vs : List (List ℕ)). first.1 ∷ vs) e
    go false e = e

-- ---- after so many fields

module _ (name text : List ℕ) (fields : List HeaderSpan) (i : ℕ) (inside : i < length fields)
    (d : HeaderSpan) where
  took : map (header_bytes text) (take (i + 1) fields) ≡ map (header_bytes text) (take i fields)
      ++ header_bytes text (get_or fields i d) ∷ []
  took = ap (map (header_bytes text)) (take_more fields i d inside) ∙ map-append (header_bytes text)
      (take i fields) (get_or fields i d ∷ [])

  pub values_more_yes : is_same_name (span_bytes text (get_or fields i d).name) name ≡ true
      → values_of name (map (header_bytes text) (take (i + 1) fields)) ≡ values_of name
      (map (header_bytes text) (take i fields)) ++ span_bytes text (get_or fields i d).value ∷ []
  values_more_yes same = ap (values_of name) took
      ∙ values_push_yes name (map (header_bytes text) (take i fields))
      (header_bytes text (get_or fields i d)) same

  pub values_more_no : is_same_name (span_bytes text (get_or fields i d).name) name ≡ false
      → values_of name (map (header_bytes text) (take (i + 1) fields)) ≡ values_of name
      (map (header_bytes text) (take i fields))
  values_more_no other = ap (values_of name) took
      ∙ values_push_no name (map (header_bytes text) (take i fields))
      (header_bytes text (get_or fields i d)) other

pub nothing_found : (name : List ℕ) → values_of name [] ≡ []
unfolding values_of
nothing_found name = refl

-- ---- what was found

pub found_first : (found next : FieldValue) (value : Bor (List ℕ)) (vs ws : List (List ℕ))
    (v : List ℕ) → AreValues found vs → found ≡ Absent → next ≡ Single value → value.now ≡ v
    → ws ≡ vs ++ v ∷ [] → AreValues next ws
found_first found next value vs ws v h is next-is value-is more =
    let none : vs ≡ [] = subst (λ (f : FieldValue). AreValues f vs) is h in
    let one : ws ≡ value.now ∷ [] = more ∙ ap (λ (xs : List (List ℕ)). xs ++ v ∷ []) none
    ∙ ap (λ (x : List ℕ). x ∷ []) (sym value-is) in
    subst (λ (f : FieldValue). AreValues f ws) (sym next-is) one

pub some_found : (found : FieldValue) (vs : List (List ℕ)) → AreValues found vs
    → (found ≡ Absent → ⊥) → 1 ≤ length vs
some_found Absent vs h is = absurd (is refl)
some_found (Single value) vs h is = omega (arith, ap (λ (xs : List (List ℕ)). length xs) h)
some_found Repeated vs h is = omega arith

pub found_more : (found next : FieldValue) (vs ws : List (List ℕ)) (v : List ℕ) → AreValues found vs
    → (found ≡ Absent → ⊥) → next ≡ Repeated → ws ≡ vs ++ v ∷ [] → AreValues next ws
found_more found next vs ws v h is next-is more =
    let two : 2 ≤ length ws = omega (
      arith,
      some_found found vs h is,
      ap (λ (xs : List (List ℕ)).
          length xs) more,
      length-append vs (v ∷ []),
    ) in
    subst (λ (f : FieldValue). AreValues f ws) (sym next-is) two

pub found_kept : (found next : FieldValue) (vs ws : List (List ℕ)) → AreValues found vs
    → next ≡ found → ws ≡ vs → AreValues next ws
found_kept found next vs ws h next-is same =
    let kept : AreValues found ws = subst (λ (xs : List (List ℕ)). AreValues found xs)
    (sym same) h in
    subst (λ (f : FieldValue). AreValues f ws) (sym next-is) kept

pub absent_only : (found : FieldValue) (vs : List (List ℕ)) → AreValues found vs → found ≡ Absent
    → vs ≡ []
absent_only found vs h is = subst (λ (f : FieldValue). AreValues f vs) is h

pub one_only : (found : FieldValue) (value : Bor (List ℕ)) (vs : List (List ℕ)) → AreValues found vs
    → found ≡ Single value → vs ≡ value.now ∷ []
one_only found value vs h is = subst (λ (f : FieldValue). AreValues f vs) is h

pub many_only : (found : FieldValue) (vs : List (List ℕ)) → AreValues found vs → found ≡ Repeated
    → 2 ≤ length vs
many_only found vs h is = subst (λ (f : FieldValue). AreValues f vs) is h

pub any_push : (test : List ℕ → Bool) (vs : List (List ℕ)) (v : List ℕ)
    → list_any test (vs ++ v ∷ []) ≡ (list_any test vs || test v)
any_push test [] v = or_false (test v)
  where
    or_false : (b : Bool) → (b || false) ≡ (false || b)
    or_false true = refl
    or_false false = refl
any_push test (w ∷ vs) v = go (test w) (any_push test vs v)
  where
    go : (b : Bool) → list_any test (vs ++ v ∷ []) ≡ (list_any test vs || test v)
        → (b || list_any test (vs ++ v ∷ [])) ≡ ((b || list_any test vs) || test v)
    go true e = refl
    go false e = e

pub any_yes : (test : List ℕ → Bool) (vs ws : List (List ℕ)) (v : List ℕ) → ws ≡ vs ++ v ∷ []
    → test v ≡ true → true ≡ list_any test ws
any_yes test vs ws v more h = sym (ap (list_any test) more ∙ any_push test vs v
    ∙ or_right (list_any test vs) (test v) h)

pub any_no : (test : List ℕ → Bool) (vs ws : List (List ℕ)) (v : List ℕ) (found : Bool)
    → ws ≡ vs ++ v ∷ [] → test v ≡ false → found ≡ list_any test vs → found ≡ list_any test ws
any_no test vs ws v found more h is = is ∙ sym (ap (list_any test) more ∙ any_push test vs v
    ∙ ap (λ (b : Bool). list_any test vs || b) h ∙ or_false (list_any test vs))
  where
    or_false : (b : Bool) → (b || false) ≡ b
    or_false true = refl
    or_false false = refl

pub any_kept : (test : List ℕ → Bool) (vs ws : List (List ℕ)) (found : Bool) → ws ≡ vs
    → found ≡ list_any test vs → found ≡ list_any test ws
any_kept test vs ws found same is = is ∙ ap (list_any test) (sym same)
