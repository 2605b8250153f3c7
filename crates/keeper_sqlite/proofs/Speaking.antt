-- Statements that are said one after the other.
use Rattle.std.specs.Prelude.{◌≡◌, List, [], ◌∷◌, ◌++◌, Option, Some, None, IsSome, refl}
use Rattle.std.proofs.Common.{sym, ◌∙◌, ap, subst}
use Rattle.std.proofs.lemmas.List.{append-nil, append_assoc}
use Rattle.keeper_records.specs.declared.write.Write.{Write}
use Rattle.keeper_sqlite.specs.declared.said.Said.{Said}
use Rattle.keeper_sqlite.specs.declared.statement.Statement.{Statement}
use Rattle.keeper_sqlite.specs.Speaking.{Spoken, spoken, said_in, saying, with_made, after_begin, after_commit, after_roll_back, standing_in, IsShut, IsInTransaction, OpensTransaction, StaysBegun, MadeNoMore}
use Rattle.keeper_sqlite.specs.Statements.{all_statements, saying_all, bare_statements, saying_bare, statements_of, said}

-- ---- one and another

both_in : (a b made : List Said) (waiting : Option (List Said))
    → saying b (Some (said_in a made waiting)) ≡ Some (said_in (a ++ b) made waiting)
unfolding saying
both_in a b made None = ap (λ m. Some (spoken m None)) (append_assoc made a b)
both_in a b made (Some waiting) = ap (λ w. Some (spoken made (Some w))) (append_assoc waiting a b)

pub saying_both : (a b : List Said) (s : Option Spoken) → saying b (saying a s) ≡ saying (a ++ b) s
unfolding saying
saying_both a b None = refl
saying_both a b (Some now) = both_in a b now.made now.waiting

none_in : (made : List Said) (waiting : Option (List Said))
    → said_in [] made waiting ≡ spoken made waiting
none_in made None = ap (λ m. spoken m None) (append-nil made)
none_in made (Some waiting) = ap (λ w. spoken made (Some w)) (append-nil waiting)

pub saying_none : (s : Option Spoken) → saying [] s ≡ s
unfolding saying
saying_none None = refl
saying_none (Some now) = ap Some (none_in now.made now.waiting)

-- ---- within a transaction

made_within : (a made : List Said) (waiting : Option (List Said)) → IsSome waiting
    → standing_in (Some (said_in a made waiting)) ≡ Some made
unfolding standing_in
made_within a made None is = cc
made_within a made (Some waiting) is = refl

still_open : (a made : List Said) (waiting : Option (List Said)) → IsSome waiting
    → IsInTransaction (Some (said_in a made waiting))
unfolding IsInTransaction
still_open a made None is = cc
still_open a made (Some waiting) is = refl

pub saying_within : (a : List Said) (s : Option Spoken) → IsInTransaction s
    → standing_in (saying a s) ≡ standing_in s
unfolding saying standing_in IsInTransaction
saying_within a None is = refl
saying_within a (Some now) is = made_within a now.made now.waiting is

pub saying_open : (a : List Said) (s : Option Spoken) → IsInTransaction s
    → IsInTransaction (saying a s)
unfolding saying IsInTransaction
saying_open a None is = is
saying_open a (Some now) is = still_open a now.made now.waiting is

-- ---- two calls

pub both_said : (a b : List Said) (s t u : Option Spoken) → t ≡ saying a s → u ≡ saying b t
    → u ≡ saying (a ++ b) s
both_said a b s t u first second = second ∙ (ap (saying b) first ∙ saying_both a b s)

pub first_alone : (a : List Said) (s t u : Option Spoken) → IsInTransaction s → t ≡ saying a s
    → standing_in u ≡ standing_in t → standing_in u ≡ standing_in s
first_alone a s t u is first same = same ∙ (ap standing_in first ∙ saying_within a s is)

pub open_still : (a : List Said) (s t : Option Spoken) → IsInTransaction s → t ≡ saying a s
    → IsInTransaction t
open_still a s t is first = subst (λ o. IsInTransaction o) (sym first) (saying_open a s is)

-- ---- calls in a loop

pub within_none : (s : Option Spoken) → IsInTransaction s → StaysBegun s s
within_none s is = record { same = refl; still = is }

pub within_more : (a : List Said) (s t u : Option Spoken) → StaysBegun s t → u ≡ saying a t
    → StaysBegun s u
within_more a s t u within more = record {
  same = first_alone a t u u within.still more refl ∙ within.same;
  still = open_still a t u within.still more;
}

pub within_same : (s t u : Option Spoken) → StaysBegun s t → standing_in u ≡ standing_in t
    → standing_in u ≡ standing_in s
within_same s t u within same = same ∙ within.same

pub all_said : (ws : List Write) (s : Option Spoken)
    → saying_all ws s ≡ saying (all_statements ws) s
all_said [] s = sym (saying_none s)
all_said (w ∷ ws) s = all_said ws (saying (statements_of w) s)
    ∙ saying_both (statements_of w) (all_statements ws) s

pub bare_said : (ss : List Statement) (s : Option Spoken)
    → saying_bare ss s ≡ saying (bare_statements ss) s
bare_said [] s = sym (saying_none s)
bare_said (x ∷ xs) s = bare_said xs (saying (said x []) s)
    ∙ saying_both (said x []) (bare_statements xs) s

pub all_are_said : (ws : List Write) (s t : Option Spoken) → t ≡ saying_all ws s
    → t ≡ saying (all_statements ws) s
all_are_said ws s t is = is ∙ all_said ws s

pub bare_are_said : (ss : List Statement) (s t : Option Spoken) → t ≡ saying_bare ss s
    → t ≡ saying (bare_statements ss) s
bare_are_said ss s t is = is ∙ bare_said ss s

pub nothing_said : (s t : Option Spoken) → t ≡ s → t ≡ saying [] s
nothing_said s t is = is ∙ sym (saying_none s)

-- ---- a transaction

begun_open : (s : Option Spoken) → IsInTransaction (after_begin s)
unfolding IsInTransaction after_begin
begun_open None = tt
begun_open (Some now) = refl

begun_made : (s : Option Spoken) → standing_in (after_begin s) ≡ standing_in s
unfolding standing_in after_begin
begun_made None = refl
begun_made (Some now) = refl

whole : (a : List Said) (s : Option Spoken)
    → after_commit (saying a (after_begin s)) ≡ with_made a s
unfolding saying with_made after_begin after_commit
whole a None = refl
whole a (Some now) = refl

pub open_begun : (s t : Option Spoken) → OpensTransaction s t → IsInTransaction t
open_begun s t begins = subst (λ o. IsInTransaction o) (sym begins.begun) (begun_open s)

pub transaction : (a : List Said) (s t u v : Option Spoken) → OpensTransaction s t → u ≡ saying a t
    → v ≡ after_commit u → v ≡ with_made a s
transaction a s t u v begins said ends = ends
    ∙ (ap after_commit said ∙ (ap (λ o. after_commit (saying a o)) begins.begun ∙ whole a s))

pub begun_same : (s t u : Option Spoken) → OpensTransaction s t → standing_in u ≡ standing_in t
    → standing_in u ≡ standing_in s
begun_same s t u begins same = same ∙ (ap standing_in begins.begun ∙ begun_made s)

pub said_same : (a : List Said) (s t u v : Option Spoken) → OpensTransaction s t → u ≡ saying a t
    → standing_in v ≡ standing_in u → standing_in v ≡ standing_in s
said_same a s t u v begins said same =
    begun_same s t v begins (first_alone a t u v (open_begun s t begins) said same)

-- ---- refusals

rolled_made : (s : Option Spoken) → standing_in (after_roll_back s) ≡ standing_in s
unfolding standing_in after_roll_back
rolled_made None = refl
rolled_made (Some now) = refl

rolled_shut : (s : Option Spoken) → IsShut (after_roll_back s)
unfolding IsShut after_roll_back
rolled_shut None = tt
rolled_shut (Some now) = refl

pub refused : (s t u : Option Spoken) → standing_in t ≡ standing_in s → u ≡ after_roll_back t
    → MadeNoMore s u
refused s t u same ends = record {
  same = ap standing_in ends ∙ (rolled_made t ∙ same);
  shut = λ shut. subst (λ o. IsShut o) (sym ends) (rolled_shut t);
}

-- nothing was said
pub unsaid : (s t : Option Spoken) → t ≡ s → MadeNoMore s t
unsaid s t is = record {
  same = ap standing_in is;
  shut = λ shut. subst (λ o. IsShut o) (sym is) shut;
}
