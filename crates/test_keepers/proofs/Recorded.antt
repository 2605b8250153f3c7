-- What a recorder was told, one statement after the other.
use Rattle.std.specs.Prelude.{◌≡◌, List, [], ◌∷◌, ◌++◌, Option, Some, None, refl}
use Rattle.std.proofs.Common.{sym, ◌∙◌, ap, subst}
use Rattle.std.proofs.lemmas.Grind.{flat_map-append}
use Rattle.std.proofs.lemmas.List.{append-nil}
use Rattle.keeper_sqlite.specs.declared.said.Said.{Said}
use Rattle.keeper_sqlite.specs.Speaking.{Spoken, spoken, saying, after_commit}
use Rattle.test_keepers.specs.Recording.{all_in, recorded}

-- one list more of statements that were made together
all_more : (made : List (List Said)) (more : List Said)
    → all_in (made ++ more ∷ []) ≡ all_in made ++ more
unfolding all_in
all_more made more = flat_map-append (λ together. together) made (more ∷ [])
    ∙ ap (λ l. all_in made ++ l) (append-nil more)

pub said_alone : (made new : List (List Said)) (line : Said) → new ≡ made ++ (line ∷ []) ∷ []
    → (recorded new None).spoken ≡ saying (line ∷ []) (recorded made None).spoken
unfolding saying
said_alone made new line is =
    ap (λ m. Some (spoken m None)) (ap all_in is ∙ all_more made (line ∷ []))

more_waiting : (made : List (List Said)) (waiting new : List Said) (line : Said)
    → new ≡ waiting ++ line ∷ []
    → (recorded made (Some new)).spoken ≡ saying (line ∷ []) (recorded made (Some waiting)).spoken
unfolding saying
more_waiting made waiting new line is = ap (λ w. Some (spoken (all_in made) (Some w))) is

pub said_within : (made : List (List Said)) (before : Option (List Said)) (waiting new : List Said)
    (line : Said) → before ≡ Some waiting → new ≡ waiting ++ line ∷ []
    → (recorded made (Some new)).spoken ≡ saying (line ∷ []) (recorded made before).spoken
said_within made before waiting new line begun is =
    subst (λ o. (recorded made (Some new)).spoken ≡ saying (line ∷ []) (recorded made o).spoken)
    (sym begun) (more_waiting made waiting new line is)

pub committed : (made new : List (List Said)) (waiting : List Said) → new ≡ made ++ waiting ∷ []
    → (recorded new None).spoken ≡ after_commit (recorded made (Some waiting)).spoken
unfolding after_commit
committed made new waiting is =
    ap (λ m. Some (spoken m None)) (ap all_in is ∙ all_more made waiting)
