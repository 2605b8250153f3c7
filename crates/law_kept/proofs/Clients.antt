-- Which client is meant, and which text.
use Rattle.std.proofs.Common.{◌≡◌, ◌⊎◌, ◌∙◌, refl, sym, inl, inr, ℕ, List, Bool, true, false, Option, Some, None}
use Rattle.std.specs.Prelude.{bytes_eq}
use Rattle.std.proofs.lemmas.Bool.{false≢true}
use Rattle.jop_base.proofs.KeyedLaws.{same_text, bytes_eq-refl}
use Rattle.item_text.specs.Props.{is_text}

pub same_or_not : (a b : List ℕ) → (a ≡ b) ⊎ ¬ (a ≡ b)
same_or_not a b = by (bytes_eq a b) refl where
  by : (test : Bool) → bytes_eq a b ≡ test → (a ≡ b) ⊎ ¬ (a ≡ b)
  by true is = inl (same_text a b is)
  by false is = inr (λ same.
      let itself = bytes_eq-refl a in
      let test : bytes_eq a b ≡ true = cc in
      false≢true (sym is ∙ test))

pub some_same : {A : Type 0} (a b : A) → Some a ≡ Some b → a ≡ b
some_same a b same = cc

pub text_is : (text : List ℕ) (other : Option (List ℕ)) → is_text text other ≡ true
    → other ≡ Some text
text_is text None is = absurd (false≢true is)
text_is text (Some other) is = let same = same_text other text is in cc
