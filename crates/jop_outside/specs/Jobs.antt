-- What comes of jobs.
use Rattle.std.specs.Prelude.{◌≡◌, ◌++◌, List, [], ◌∷◌, Result, Ok, Err}
use Rattle.std.specs.declared.alloc.AllocError.{AllocError}

-- one result for each job, in their order, which that job gives
unfoldable pub AreGivenBy : {J D : Type 0} → (J → D → Type 0) → List J → List D → Type 0
AreGivenBy gives [] [] = Unit {0}
AreGivenBy gives (job ∷ jobs) (result ∷ results) =
    gives job result × AreGivenBy gives jobs results
AreGivenBy gives jobs results = ⊥

-- the results of these jobs were added
pub record HasAdded {J D : Type 0} (gives : J → D → Type 0) (jobs : List J) (before after : List D)
    : Type 0 where
  pub results : List D
  pub added : after ≡ before ++ results
  pub given : AreGivenBy gives jobs results

-- the results of the first of these jobs were added, and no others
pub record HasAddedSome {J D : Type 0} (gives : J → D → Type 0) (jobs : List J)
    (before after : List D) : Type 0 where
  pub first : List J
  pub rest : List J
  pub whole : jobs ≡ first ++ rest
  pub some : HasAdded gives first before after

-- the results of the jobs were added; out of memory those of the first of them
abbrev pub Finishes : {J D : Type 0} → (J → D → Type 0) → List J → List D → List D
    → Result (Unit {0}) AllocError → Type 0
Finishes gives jobs before after (Ok done) = HasAdded gives jobs before after
Finishes gives jobs before after (Err e) = HasAddedSome gives jobs before after
