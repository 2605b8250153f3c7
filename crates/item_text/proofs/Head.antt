-- What stands above the last empty line.
use Rattle.std.proofs.Common.{◌≡◌, ℕ, List, [], ◌∷◌, drop, Option, Some, None, sym, ap, ◌∙◌, Bor}
use Rattle.std.proofs.lemmas.List.Splits.{join_with_byte-slice_split}
use Rattle.item_text.specs.Lines.{lines, joined}
use Rattle.item_text.specs.Grammar.{title_of}
use Rattle.item_text.specs.Steps.{lines_of}

pub joined-lines : (text : List ℕ) → joined (lines text) ≡ text
unfolding lines joined
joined-lines text = join_with_byte-slice_split 10 text

-- the lines from the third on
below_second : (all : List (List ℕ)) (first second : List ℕ) (r q : Option (Bor (List ℕ)))
    (below : Bor (List ℕ)) → all ≡ first ∷ lines_of r → r ≡ Some below
    → lines below.now ≡ second ∷ lines_of q → drop 2 all ≡ lines_of q
below_second all first second r q below a b d =
    ap (λ (x : List (List ℕ)). drop 2 x)
    (a ∙ ap (λ (o : Option (Bor (List ℕ))). first ∷ lines_of o) b
    ∙ ap (λ (x : List (List ℕ)). first ∷ x) d)

pub body_one : (all : List (List ℕ)) (first : List ℕ) (r : Option (Bor (List ℕ)))
    → all ≡ first ∷ lines_of r → r ≡ None → [] ≡ joined (drop 2 all)
unfolding joined
body_one all first r a b =
    sym (ap (λ (x : List (List ℕ)). joined (drop 2 x))
    (a ∙ ap (λ (o : Option (Bor (List ℕ))). first ∷ lines_of o) b))

pub body_two : (all : List (List ℕ)) (first second : List ℕ) (r q : Option (Bor (List ℕ)))
    (below : Bor (List ℕ)) → all ≡ first ∷ lines_of r → r ≡ Some below
    → lines below.now ≡ second ∷ lines_of q → q ≡ None → [] ≡ joined (drop 2 all)
unfolding joined
body_two all first second r q below a b d e =
    sym (ap joined (below_second all first second r q below a b d ∙ ap lines_of e))

pub body_more : (all : List (List ℕ)) (first second : List ℕ) (r q : Option (Bor (List ℕ)))
    (below body : Bor (List ℕ)) → all ≡ first ∷ lines_of r → r ≡ Some below
    → lines below.now ≡ second ∷ lines_of q → q ≡ Some body → body.now ≡ joined (drop 2 all)
body_more all first second r q below body a b d e =
    sym (ap joined (below_second all first second r q below a b d ∙ ap lines_of e)
    ∙ joined-lines body.now)

pub head_none : (r : Option (Bor (List ℕ))) → r ≡ None
    → (None ≡ title_of (lines_of r)) × ([] ≡ joined (drop 2 (lines_of r)))
unfolding joined
head_none r e = (
  sym (ap (λ (o : Option (Bor (List ℕ))). title_of (lines_of o)) e),
  sym (ap (λ (o : Option (Bor (List ℕ))). joined (drop 2 (lines_of o))) e),
)
