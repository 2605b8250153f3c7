-- Going through the lines from the last one upward.
use Rattle.std.proofs.Common.{◌≡◌, ℕ, ◌+◌, ◌-◌, ◌≤◌, Bool, true, false, cond, List, [], ◌∷◌, ◌++◌, length, map, drop, get_or, ◌<◌, Option, Some, None, refl, sym, ap, ◌∙◌, subst, append_assoc, arith, inl, inr, Bor}
use Rattle.std.specs.Prelude.{◌&&◌, MatchOption}
use Rattle.std.specs.List.{list_all}
use Rattle.std.proofs.lemmas.Bool.{cases_Bool, and_from, and_left, and_right, and_parts, cond-true, cond-false}
use Rattle.std.proofs.lemmas.List.{length-append, append-nil, append_cancel_left, get_or_at, drop_at}
use Rattle.item_text.specs.declared.bad_item.BadItem.{BadItem}
use Rattle.item_text.specs.declared.bad_item.BadWhy.TheVariants.{NoColon}
use Rattle.item_text.specs.Lines.{has, lines, has_text}
use Rattle.item_text.specs.Grammar.{AreParts, pair_of, block, or_else, colon_fault, type_fault, block_fault, lines_fault}
use Rattle.item_text.specs.Steps.{lines_of, IsFirstPart, IsBlock}
use Rattle.item_text.proofs.Cut.{lines_append}

-- ---- the block of lines that end in lines with text

list_all-append : {X : Type 0} (p : X → Bool) (xs ys : List X) → list_all p ys ≡ true
    → list_all p (xs ++ ys) ≡ list_all p xs
list_all-append p [] ys h = h
list_all-append p (x ∷ xs) ys h = ap (λ (b : Bool). p x && b) (list_all-append p xs ys h)

pub block_whole : (ls : List (List ℕ)) → list_all has_text ls ≡ true → block ls ≡ ls
unfolding block
block_whole [] h = refl
block_whole (l ∷ ls) h = cond-true (list_all has_text (l ∷ ls)) (l ∷ ls) (block ls) h

block-append : (xs ys : List (List ℕ)) → list_all has_text ys ≡ true
    → block (xs ++ ys) ≡ block xs ++ ys
unfolding block
block-append [] ys h = block_whole ys h
block-append (x ∷ xs) ys h =
    let same = list_all-append has_text (x ∷ xs) ys h in
    elim (cases_Bool (list_all has_text (x ∷ xs))) [
      | inl all ↦ cond-true (list_all has_text (x ∷ (xs ++ ys))) (x ∷ (xs ++ ys)) (block (xs ++ ys))
          (same ∙ all)
          ∙ sym (ap (λ (b : List (List ℕ)). b ++ ys)
          (cond-true (list_all has_text (x ∷ xs)) (x ∷ xs) (block xs) all))
      | inr some ↦
          cond-false (list_all has_text (x ∷ (xs ++ ys))) (x ∷ (xs ++ ys)) (block (xs ++ ys))
          (same ∙ some) ∙ block-append xs ys h
          ∙ sym (ap (λ (b : List (List ℕ)). b ++ ys)
          (cond-false (list_all has_text (x ∷ xs)) (x ∷ xs) (block xs) some))
    ]

not_all : (above : List (List ℕ)) (line : List ℕ) (below : List (List ℕ)) → has_text line ≡ false
    → list_all has_text (above ++ line ∷ below) ≡ false
not_all [] line below h = and_left (has_text line) (list_all has_text below) h
not_all (a ∷ above) line below h =
    and_right (has_text a) (list_all has_text (above ++ line ∷ below)) (not_all above line below h)

-- the lines below an empty one, each with text, are the block
block_below : (above : List (List ℕ)) (line : List ℕ) (below : List (List ℕ))
    → has_text line ≡ false → list_all has_text below ≡ true → block (above ++ line ∷ below) ≡ below
unfolding block
block_below [] line below empty text =
    cond-false (list_all has_text (line ∷ below)) (line ∷ below) (block below)
    (and_left (has_text line) (list_all has_text below) empty) ∙ block_whole below text
block_below (a ∷ above) line below empty text =
    cond-false (list_all has_text (a ∷ (above ++ line ∷ below))) (a ∷ (above ++ line ∷ below))
    (block (above ++ line ∷ below))
    (and_right (has_text a) (list_all has_text (above ++ line ∷ below))
    (not_all above line below empty)) ∙ block_below above line below empty text

pub block_of_parts : (all above below : List (List ℕ)) → AreParts all above below
    → block all ≡ below
block_of_parts all above below parts =
    elim parts.1 [
      | inl cut ↦ ap block cut.2 ∙ block_below above cut.0 below cut.1 parts.0
      | inr whole ↦ ap block whole.1 ∙ block_whole below parts.0
    ]

length-block : (ls : List (List ℕ)) → length (block ls) ≤ length ls
unfolding block
length-block [] = omega arith
length-block (l ∷ ls) =
    let shorter = length-block ls in
    elim (cases_Bool (list_all has_text (l ∷ ls))) [
      | inl all ↦ let e =
          ap (λ (x : List (List ℕ)). length x)
          (cond-true (list_all has_text (l ∷ ls)) (l ∷ ls) (block ls) all) in omega arith
      | inr some ↦ let e =
          ap (λ (x : List (List ℕ)). length x)
          (cond-false (list_all has_text (l ∷ ls)) (l ∷ ls) (block ls) some) in omega arith
    ]

-- ---- the last line with no colon

pub colon_none : (n : ℕ) (ls : List (List ℕ)) → list_all (has 58) ls ≡ true
    → colon_fault n ls ≡ None
unfolding colon_fault
colon_none n [] h = refl
colon_none n (l ∷ ls) h =
    let parts = and_parts (has 58 l) (list_all (has 58) ls) h in
    ap (λ (o : Option BadItem). or_else o
    (cond (has 58 l) None (Some (record { line = n; why = NoColon }))))
    (colon_none (n + 1) ls parts.1)
    ∙ cond-true (has 58 l) None (Some (record { line = n; why = NoColon })) parts.0

colon_last : (n : ℕ) (above : List (List ℕ)) (line : List ℕ) (below : List (List ℕ))
    → has 58 line ≡ false → list_all (has 58) below ≡ true
    → colon_fault n (above ++ line ∷ below)
    ≡ Some (record { line = n + length above; why = NoColon })
unfolding colon_fault
colon_last n [] line below lacks colons =
    ap (λ (o : Option BadItem). or_else o
    (cond (has 58 line) None (Some (record { line = n; why = NoColon }))))
    (colon_none (n + 1) below colons)
    ∙ cond-false (has 58 line) None (Some (record { line = n; why = NoColon })) lacks
    ∙ ap (λ (k : ℕ). Some (record { line = k; why = NoColon })) (omega arith)
colon_last n (a ∷ above) line below lacks colons =
    ap (λ (o : Option BadItem). or_else o
    (cond (has 58 a) None (Some (record { line = n; why = NoColon }))))
    (colon_last (n + 1) above line below lacks colons)
    ∙ ap (λ (k : ℕ). Some (record { line = k; why = NoColon })) (omega arith)

-- ---- the walk

-- of all lines these are left, and below them stand lines with text and a colon
pub record Walked (all rest : List (List ℕ)) : Type 0 where
  pub done : List (List ℕ)
  pub parts : all ≡ rest ++ done
  pub text : list_all has_text done ≡ true
  pub colons : list_all (has 58) done ≡ true

walked_empty : (all rest above : List (List ℕ)) (line : List ℕ) → (w : Walked all rest)
    → rest ≡ above ++ line ∷ []
    → has_text line ≡ false → AreParts all above w.done
walked_empty all rest above line w cut empty =
    let parts = w.parts ∙ ap (λ (x : List (List ℕ)). x ++ w.done) cut
    ∙ append_assoc above (line ∷ []) w.done in
    (w.text, inl (line, empty, parts))

-- a line with no colon is refused at once: its number is how many lines are left
pub walked_fault : (all rest above : List (List ℕ)) (line : List ℕ) → Walked all rest
    → rest ≡ above ++ line ∷ []
    → has_text line ≡ true → has 58 line ≡ false
    → lines_fault all ≡ Some (record { line = length rest; why = NoColon })
unfolding lines_fault block_fault
walked_fault all rest above line w cut text lacks =
    let parts = w.parts ∙ ap (λ (x : List (List ℕ)). x ++ w.done) cut
    ∙ append_assoc above (line ∷ []) w.done in
    let long : List (List ℕ) → ℕ = λ x. length x in
    let tail = and_from (has_text line) (list_all has_text w.done) text w.text in
    let found = ap block parts ∙ block-append above (line ∷ w.done) tail in
    let first : ℕ = length all - length (block all) + 1 in
    let number : first + length (block above) ≡ length rest =
    omega (
      arith,
      ap long parts,
      ap long found,
      ap long cut,
      length-append above (line ∷ w.done),
      length-append (block above) (line ∷ w.done),
      length-append above (line ∷ []),
      length-block above,
    ) in
    ap (λ (o : Option BadItem). or_else o (type_fault first (map pair_of (block all))))
    (ap (colon_fault first) found ∙ colon_last first (block above) line w.done lacks w.colons)
    ∙ ap (λ (k : ℕ). Some (record { line = k; why = NoColon })) number

-- ---- the text of the lines that were passed

-- the part of the text that is left, if anything is
abbrev pub FirstPartOf : Option (Bor (List ℕ)) → List ℕ → Type 0
FirstPartOf None text = Unit {0}
FirstPartOf (Some part) text = IsFirstPart part.now text

-- what stands below a first part of the text are the lines that the walk has passed
passed : (text part : List ℕ) (done : List (List ℕ)) (block : Option (Bor (List ℕ)))
    → lines text ≡ lines part ++ done
    → MatchOption block (text ≡ part) (λ b. text ≡ part ++ 10 ∷ b.now) → done ≡ lines_of block
passed text part done None parts is =
    append_cancel_left (lines part) done []
    (sym parts ∙ ap lines is ∙ sym (append-nil (lines part)))
passed text part done (Some b) parts is =
    append_cancel_left (lines part) done (lines b.now)
    (sym parts ∙ ap lines is ∙ lines_append part b.now)

pub cut_here : (text part line : List ℕ) (above block : Option (Bor (List ℕ)))
    → Walked (lines text) (lines part)
    → lines part ≡ lines_of above ++ line ∷ [] → has_text line ≡ false
    → MatchOption block (text ≡ part) (λ b. text ≡ part ++ 10 ∷ b.now)
    → IsBlock (lines text) above block
cut_here text part line above block w cut empty is =
    let P : List (List ℕ)
    → Type 0 = λ ls. AreParts (lines text) (lines_of above) ls × (list_all (has 58) ls ≡ true) in
    subst P (passed text part w.done block w.parts is)
    (walked_empty _ _ _ line w cut empty, w.colons)

-- ---- what stands behind a first part

pub first_part_split : (text part : List ℕ) → IsFirstPart part text → (length text ≡ length part → ⊥)
    → (rest : List ℕ) × (text ≡ part ++ 10 ∷ rest)
first_part_split text part front longer =
    elim front [
      | inl same ↦ absurd (longer (ap (λ (x : List ℕ). length x) same))
      | inr more ↦ more
    ]

pub first_part_feed : (text part rest : List ℕ) → text ≡ part ++ 10 ∷ rest
    → (length part < length text) × (get_or text (length part) 0 ≡ 10)
first_part_feed text part rest is = (
  omega (arith, ap (λ (x : List ℕ). length x) is, length-append part (10 ∷ rest)),
  ap (λ (x : List ℕ). get_or x (length part) 0) is ∙ get_or_at part 10 rest 0 (length part) refl,
)

pub first_part_rest : (text part rest : List ℕ) → text ≡ part ++ 10 ∷ rest
    → text ≡ part ++ 10 ∷ drop (length part + 1) text
first_part_rest text part rest is =
    let n : ℕ = length part + 1 in
    let grouped = is ∙ sym (append_assoc part (10 ∷ []) rest) in
    let behind = ap (λ (x : List ℕ). drop n x) grouped
    ∙ drop_at (part ++ 10 ∷ []) rest n (length-append part (10 ∷ [])) in
    is ∙ ap (λ (x : List ℕ). part ++ 10 ∷ x) (sym behind)
