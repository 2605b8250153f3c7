use Rattle.std.proofs.Common.{◌≡◌, ◌∙◌, List, ◌∷◌, ℕ, Option, Some, None, Bor, refl, ap, subst, arith}
use Rattle.std.specs.Option.{MatchOption, unwrap_or}
use Rattle.std.proofs.lemmas.Str.Pattern.{strip_prefix_char}
use Rattle.jop_base.specs.Paths.{dir_prefix}
use Rattle.jop_base.proofs.dir.Dir.prefix.Goals as goal

-- what stands behind the slash that a text begins with
behind_slash : (text : List ℕ) (behind : Option (Bor (List ℕ))) (empty : Bor (List ℕ))
    → MatchOption behind ((rest : List ℕ) → ¬ (47 ∷ text ≡ 47 ∷ rest))
    (λ rest. 47 ∷ text ≡ 47 ∷ rest.now) → (unwrap_or behind empty).now ≡ text
behind_slash text None empty none = absurd (none text refl)
behind_slash text (Some rest) empty some = cc

pub returns : goal.returns
returns c =
    ap (λ (text : Bor (List ℕ)). text.now) c.unwrap_or.ensures
    ∙ behind_slash (dir_prefix c.args.self) c.strip_prefix.result _
    (subst (λ (text : List ℕ). MatchOption c.strip_prefix.result
    ((rest : List ℕ) → ¬ (text ≡ 47 ∷ rest)) (λ rest. text ≡ 47 ∷ rest.now))
    c.absolute.ensures
    (strip_prefix_char 47 c.absolute.result.now c.strip_prefix.result c.strip_prefix.ensures.cases
    (omega arith)))
