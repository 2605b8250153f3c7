use Rattle.std.proofs.Common.{◌≡◌, ◌∙◌, List, [], ◌∷◌, ◌++◌, ℕ, Option, Some, None, Bor, refl, sym, ap, subst, arith}
use Rattle.std.specs.Option.{MatchOption, unwrap_or}
use Rattle.std.specs.Prelude.{codes}
use Rattle.std.proofs.lemmas.List.{append_cancel_right}
use Rattle.std.proofs.lemmas.Str.Pattern.{strip_suffix_char}
use Rattle.jop_base.specs.Paths.{dir_text, with_slash}
use Rattle.jop_base.proofs.dir.Dir.as_str.Goals as goal

-- what stands before the slash is the name
before_slash : (name rest : List ℕ) → with_slash name ≡ rest ++ codes "/" → rest ≡ name
before_slash [] [] e = absurd cc
before_slash [] (c ∷ rest) e = absurd cc
before_slash (c ∷ name) rest e = sym (append_cancel_right (c ∷ name) rest (codes "/") e)

-- a text without a slash at its end has no name
no_slash : (name : List ℕ) → ((rest : List ℕ) → ¬ (with_slash name ≡ rest ++ codes "/")) → [] ≡ name
no_slash [] none = refl
no_slash (c ∷ name) none = absurd (none (c ∷ name) refl)

name_of : (name : List ℕ) (before : Option (Bor (List ℕ))) (empty : Bor (List ℕ)) → empty.now ≡ []
    → MatchOption before ((rest : List ℕ) → ¬ (with_slash name ≡ rest ++ codes "/"))
    (λ rest. with_slash name ≡ rest.now ++ codes "/") → (unwrap_or before empty).now ≡ name
name_of name None empty is none = is ∙ no_slash name none
name_of name (Some rest) empty is some = before_slash name rest.now some

pub returns : goal.returns
returns c =
    ap (λ (name : Bor (List ℕ)). name.now) c.unwrap_or.ensures
    ∙ name_of (dir_text c.args.self) c.strip_suffix.result _ refl
    (subst (λ (text : List ℕ). MatchOption c.strip_suffix.result
    ((rest : List ℕ) → ¬ (text ≡ rest ++ codes "/")) (λ rest. text ≡ rest.now ++ codes "/"))
    c.prefix.ensures
    (strip_suffix_char 47 c.prefix.result.now c.strip_suffix.result c.strip_suffix.ensures.cases
    (omega arith)))
