-- What is read is a valid item.
use Rattle.std.proofs.Common.{◌≡◌, ℕ, suc, zero, ◌+◌, ◌-◌, Bool, true, false, cond, eqb, not, List, [], ◌∷◌, ◌++◌, length, map, take, drop, Option, Some, None, Result, Ok, Err, refl, sym, ap, ◌∙◌, subst, arith, inl, inr}
use Rattle.std.specs.Prelude.{MatchOption, IfNone, IfSome, IfOk, bytes_eq}
use Rattle.std.specs.List.{position_or_len, before_first, after_first, AllByRecursion}
use Rattle.std.proofs.lemmas.Bool.{or_parts, or_from, not_from_false, not_from_true, cond-true, cond-false, cases_Bool}
use Rattle.item_text.specs.declared.item.Item.{Item}
use Rattle.item_text.specs.declared.item.Prop.{Prop}
use Rattle.item_text.specs.declared.bad_item.BadItem.{BadItem}
use Rattle.item_text.specs.declared.bad_item.BadWhy.TheVariants.{TypeValue}
use Rattle.item_text.specs.declared.bad_item.ItemErr.{ItemErr}
use Rattle.item_text.specs.Lines.{has, lines, joined, trimmed_front, trimmed}
use Rattle.item_text.specs.Props.{type_key, value_of}
use Rattle.item_text.specs.Valid.{is_type_value, IsField, IsProp, IsItem}
use Rattle.item_text.specs.Grammar.{is_colon, pair_of, AreParts, title_of, item_of_lines, ReadsAs, block, or_else, colon_fault, type_fault, block_fault, lines_fault, first_fault}
use Rattle.item_text.specs.Answers.{ReadsOrRefuses}
use Rattle.item_text.proofs.Cut.{lines_clean}
use Rattle.item_text.proofs.Blanks.{trimmed-trimmed}
use Rattle.item_text.proofs.Walked.{block_of_parts}
use Rattle.item_text.proofs.Answered.{fault_text}

-- ---- parts of a text have no byte that the text hasn't

has-take : (c n : ℕ) (text : List ℕ) → has c text ≡ false → has c (take n text) ≡ false
has-take c zero text h = refl
has-take c (suc n) [] h = refl
has-take c (suc n) (b ∷ bs) h = let parts = or_parts (eqb b c) (has c bs) h in
    or_from (eqb b c) (has c (take n bs)) parts.0 (has-take c n bs parts.1)

has-drop : (c n : ℕ) (text : List ℕ) → has c text ≡ false → has c (drop n text) ≡ false
has-drop c zero text h = h
has-drop c (suc n) [] h = refl
has-drop c (suc n) (b ∷ bs) h = has-drop c n bs (or_parts (eqb b c) (has c bs) h).1

has-trimmed : (c : ℕ) (text : List ℕ) → has c text ≡ false → has c (trimmed text) ≡ false
unfolding trimmed
has-trimmed c text h = has-take c _ (trimmed_front text) (has-drop c _ text h)

before_colon : (line : List ℕ) → has 58 (before_first is_colon line) ≡ false
before_colon [] = refl
before_colon (b ∷ bs) =
    let n : ℕ = position_or_len is_colon bs in
    elim (cases_Bool (is_colon b)) [
      | inl hit ↦ ap (λ (k : ℕ). has 58 (take k (b ∷ bs)))
          (cond-false (not (is_colon b)) (1 + n) 0 (not_from_true (is_colon b) hit))
      | inr miss ↦
          let more : 1 + n ≡ suc n = omega arith in
          ap (λ (k : ℕ). has 58 (take k (b ∷ bs)))
          (cond-true (not (is_colon b)) (1 + n) 0 (not_from_false (is_colon b) miss) ∙ more)
          ∙ or_from (is_colon b) (has 58 (take n bs)) miss (before_colon bs)
    ]

-- ---- a pair

pub field_of : (text : List ℕ) → has 10 text ≡ false → IsField (trimmed text)
field_of text h = record { one_line = has-trimmed 10 text h; is_trimmed = trimmed-trimmed text }

prop_of_line : (line : List ℕ) → has 10 line ≡ false → IsProp (pair_of line)
unfolding pair_of
prop_of_line line h = record {
  key = field_of (before_first is_colon line) (has-take 10 (position_or_len is_colon line) line h);
  no_colon = has-trimmed 58 (before_first is_colon line) (before_colon line);
  value = field_of (after_first is_colon line)
      (has-drop 10 (position_or_len is_colon line + 1) line h);
}

props_of_lines : (ls : List (List ℕ)) → AllByRecursion (λ l. has 10 l ≡ false) ls
    → AllByRecursion IsProp (map pair_of ls)
props_of_lines [] h = tt
props_of_lines (l ∷ ls) h = (prop_of_line l h.0, props_of_lines ls h.1)

-- ---- the type

judged_good : (b : Bool) (x : BadItem) → cond b None (Some x) ≡ None → b ≡ true
judged_good true x e = refl
judged_good false x e = absurd cc

kind_of_type : (n : ℕ) (ps : List Prop) → type_fault n ps ≡ None
    → MatchOption (value_of type_key ps) ⊥ (λ value. is_type_value value ≡ true)
unfolding value_of type_fault
kind_of_type n [] e = absurd cc
kind_of_type n (p ∷ ps) e =
    let judged : Option BadItem =
    cond (is_type_value p.value) None (Some (record { line = n; why = TypeValue })) in
    let Q : Option (List ℕ) → Type 0 = λ o. MatchOption o ⊥ (λ value. is_type_value value ≡ true) in
    elim (cases_Bool (bytes_eq p.key type_key)) [
      | inl is ↦
          let good : judged ≡ None =
          sym (cond-true (bytes_eq p.key type_key) judged (type_fault (n + 1) ps) is) ∙ e in
          subst Q (sym
          (cond-true (bytes_eq p.key type_key) (Some p.value) (value_of type_key ps) is))
          (judged_good (is_type_value p.value) (record { line = n; why = TypeValue }) good)
      | inr isnt ↦
          subst Q (sym
          (cond-false (bytes_eq p.key type_key) (Some p.value) (value_of type_key ps) isnt))
          (kind_of_type (n + 1) ps
          (sym (cond-false (bytes_eq p.key type_key) judged (type_fault (n + 1) ps) isnt) ∙ e))
    ]

or_else_none : (a b : Option BadItem) → or_else a b ≡ None → b ≡ None
or_else_none None b e = e
or_else_none (Some x) b e = absurd cc

-- ---- the item

both_clean : (xs ys : List (List ℕ)) → AllByRecursion (λ l. has 10 l ≡ false) (xs ++ ys)
    → AllByRecursion (λ l. has 10 l ≡ false) xs × AllByRecursion (λ l. has 10 l ≡ false) ys
both_clean [] ys h = (tt, h)
both_clean (x ∷ xs) ys h = let rest = both_clean xs ys h.1 in ((h.0, rest.0), rest.1)

parts_clean : (all above below : List (List ℕ)) → AreParts all above below
    → AllByRecursion (λ l. has 10 l ≡ false) all
    → AllByRecursion (λ l. has 10 l ≡ false) above × AllByRecursion (λ l. has 10 l ≡ false) below
parts_clean all above below parts h =
    let P : List (List ℕ) → Type 0 = λ ls. AllByRecursion (λ l. has 10 l ≡ false) ls in
    elim parts.1 [
      | inl cut ↦ let both = both_clean above (cut.0 ∷ below) (subst P cut.2 h) in
          (both.0, both.1.1)
      | inr whole ↦ (subst P (sym whole.0) tt, subst P whole.1 h)
    ]

head_valid : (above : List (List ℕ)) → AllByRecursion (λ l. has 10 l ≡ false) above
    → IfSome (title_of above) (λ t. has 10 t ≡ false)
    × IfNone (title_of above) (joined (drop 2 above) ≡ [])
unfolding joined
head_valid [] h = (tt, refl)
head_valid (l ∷ ls) h = (h.0, tt)

pub reads_valid : (bytes : List ℕ) (item : Item) → ReadsAs bytes item → first_fault bytes ≡ None
    → IsItem item
unfolding ReadsAs item_of_lines lines_fault block_fault
reads_valid bytes item r good =
    let above = r.1.0 in
    let below = r.1.1 in
    let parts = r.1.2 in
    let clean = parts_clean (lines bytes) above below parts (lines_clean bytes) in
    let head = head_valid above clean.0 in
    let n : ℕ = length (lines bytes) - length (block (lines bytes)) + 1 in
    let typed = or_else_none (colon_fault n (block (lines bytes)))
    (type_fault n (map pair_of (block (lines bytes)))) (sym (fault_text bytes r.0) ∙ good) in
    let kind = kind_of_type n (map pair_of below)
    (ap (λ (ls : List (List ℕ)). type_fault n (map pair_of ls))
    (sym (block_of_parts (lines bytes) above below parts)) ∙ typed) in
    let P : Item → Type 0 = λ i. IsItem i in
    subst P (sym r.1.3)
    (record {
      title = head.0;
      no_title = head.1;
      props = props_of_lines below clean.1;
      typed = kind;
    })

pub answer_valid : (bytes : List ℕ) (result : Result Item ItemErr) → ReadsOrRefuses bytes result
    → IfOk result IsItem
unfolding ReadsOrRefuses
answer_valid bytes (Ok item) h = reads_valid bytes item h.0 h.1
answer_valid bytes (Err e) h = tt
