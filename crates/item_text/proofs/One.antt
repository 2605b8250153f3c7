-- A text reads as one item only.
use Rattle.std.proofs.Common.{◌≡◌, ℕ, List, [], ◌∷◌, ◌++◌, length, None, Result, Ok, Err, sym, ap, ◌∙◌, append_assoc, arith, inl, inr}
use Rattle.std.proofs.lemmas.List.{append_cancel_right, same_from_push, length-append}
use Rattle.item_text.specs.declared.item.Item.{Item}
use Rattle.item_text.specs.declared.bad_item.ItemErr.{ItemErr}
use Rattle.item_text.specs.declared.bad_item.ItemErr.TheVariants as errors
use Rattle.item_text.specs.Lines.{lines}
use Rattle.item_text.specs.Grammar.{AreParts, item_of_lines, ReadsAs, first_fault}
use Rattle.item_text.specs.Answers.{ReadsOrRefuses, IsOrMemory}
use Rattle.item_text.proofs.Walked.{block_of_parts}

-- the lines below are one list, and so are those above
below_one : (all a b c d : List (List ℕ)) → AreParts all a b → AreParts all c d → b ≡ d
below_one all a b c d p q = sym (block_of_parts all a b p) ∙ block_of_parts all c d q

above_same : (a c b : List (List ℕ)) (e f : List ℕ) → a ++ e ∷ b ≡ c ++ f ∷ b → a ≡ c
above_same a c b e f h =
    let grouped = append_assoc a (e ∷ []) b ∙ h ∙ sym (append_assoc c (f ∷ []) b) in
    (same_from_push a c e f (append_cancel_right (a ++ e ∷ []) (c ++ f ∷ []) b grouped)).0

above_one : (all a b c d : List (List ℕ)) → AreParts all a b → AreParts all c d → a ≡ c
above_one all a b c d p q =
    let below = below_one all a b c d p q in
    let long = ap (λ (x : List (List ℕ)). length x) below in
    elim p.1 [
      | inl x ↦ elim q.1 [
        | inl y ↦ above_same a c b x.0 y.0
            (sym x.2 ∙ y.2 ∙ ap (λ (z : List (List ℕ)). c ++ y.0 ∷ z) (sym below))
        | inr y ↦ absurd
            (omega (
              arith,
              ap (λ (z : List (List ℕ)). length z) x.2,
              ap (λ (z : List (List ℕ)). length z) y.1,
              length-append a (x.0 ∷ b),
            ))
      ]
      | inr x ↦ elim q.1 [
        | inl y ↦ absurd
            (omega (
              arith,
              ap (λ (z : List (List ℕ)). length z) y.2,
              ap (λ (z : List (List ℕ)). length z) x.1,
              length-append c (y.0 ∷ d),
            ))
        | inr y ↦ x.0 ∙ sym y.0
      ]
    ]

pub reads_one : (bytes : List ℕ) (item other : Item) → ReadsAs bytes item → ReadsAs bytes other
    → item ≡ other
unfolding ReadsAs
reads_one bytes item other r s =
    let all : List (List ℕ) = lines bytes in
    r.1.3
    ∙ ap (λ (a : List (List ℕ)). item_of_lines a r.1.1)
    (above_one all r.1.0 r.1.1 s.1.0 s.1.1 r.1.2 s.1.2)
    ∙ ap (λ (b : List (List ℕ)). item_of_lines s.1.0 b)
    (below_one all r.1.0 r.1.1 s.1.0 s.1.1 r.1.2 s.1.2)
    ∙ sym s.1.3

pub answers_only : (bytes : List ℕ) (result : Result Item ItemErr) → ReadsOrRefuses bytes result
    → (item : Item) → ReadsAs bytes item → first_fault bytes ≡ None → IsOrMemory item result
unfolding ReadsOrRefuses IsOrMemory
answers_only bytes (Ok found) h item r good = reads_one bytes found item h.0 r
answers_only bytes (Err (errors.Bad refusal)) h item r good = absurd (let e = sym h ∙ good in cc)
answers_only bytes (Err errors.NoMemory) h item r good = tt
