-- What is kept of the results of jobs, one job after the other.
use Rattle.std.proofs.Common.{refl, ◌≡◌, ◌∙◌, sym, ap, List, [], ◌∷◌, ◌++◌, append_assoc, append-nil}
use Rattle.jop_outside.specs.Jobs.{AreGivenBy, HasAdded, HasAddedSome}

given_more : {J D : Type 0} (gives : J → D → Type 0) (jobs : List J) (results : List D) (job : J)
    (result : D) → AreGivenBy gives jobs results → gives job result
    → AreGivenBy gives (jobs ++ job ∷ []) (results ++ result ∷ [])
unfolding AreGivenBy
given_more gives [] [] job result all one = (one, tt)
given_more gives (j ∷ jobs) (r ∷ results) job result all one =
    (all.0, given_more gives jobs results job result all.1 one)
given_more gives [] (r ∷ results) job result all one = absurd all
given_more gives (j ∷ jobs) [] job result all one = absurd all

pub none_yet : {J D : Type 0} (gives : J → D → Type 0) (before : List D)
    → HasAdded gives [] before before
unfolding AreGivenBy
none_yet gives before = record { results = []; added = sym (append-nil before); given = tt }

-- one more job, whose result was added
pub added_more : {J D : Type 0} {gives : J → D → Type 0} {jobs : List J} {before after last : List D}
    (job : J) (result : D) → HasAdded gives jobs before after → last ≡ after ++ result ∷ []
    → gives job result → HasAdded gives (jobs ++ job ∷ []) before last
added_more {J} {D} {gives} {jobs} {before} {after} {last} job result all added one = record {
  results = all.results ++ result ∷ [];
  added = added ∙ (ap (λ rs. rs ++ result ∷ []) all.added
      ∙ append_assoc before all.results (result ∷ []));
  given = given_more gives jobs all.results job result all.given one;
}

-- one more job, whose result found no memory
pub added_all_but_one : {J D : Type 0} {gives : J → D → Type 0} {jobs : List J}
    {before after last : List D} (job : J) → HasAdded gives jobs before after → last ≡ after
    → HasAddedSome gives (jobs ++ job ∷ []) before last
added_all_but_one {J} {D} {gives} {jobs} {before} {after} {last} job all same = record {
  first = jobs;
  rest = job ∷ [];
  whole = refl;
  some = record { results = all.results; added = same ∙ all.added; given = all.given };
}

-- one more job, behind one whose result found no memory
pub added_some_more : {J D : Type 0} {gives : J → D → Type 0} {jobs : List J} {before after : List D}
    (job : J) → HasAddedSome gives jobs before after
    → HasAddedSome gives (jobs ++ job ∷ []) before after
added_some_more {J} {D} {gives} {jobs} {before} {after} job some = record {
  first = some.first;
  rest = some.rest ++ job ∷ [];
  whole = ap (λ js. js ++ job ∷ []) some.whole ∙ append_assoc some.first some.rest (job ∷ []);
  some = some.some;
}
