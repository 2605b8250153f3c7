-- A history of all clients at one store, told with the changes that each makes to its own tables.
use Rattle.std.specs.Prelude.{ℕ, ◌≡◌, ◌+◌, List, [], ◌∷◌, ◌++◌, map, take, slice_get, All, true, bytes_eq, if◌then◌else◌, option_to_list, Option, Some, None}
use Rattle.jop_target.specs.History.{History, Step, Happening, Changed, part_of}
use Rattle.jop_target.specs.declared.event.Event.{Event}
use Rattle.jop_target.specs.declared.event.Event.TheVariants.{Began, Sent, Called, Made, Ended}
use Rattle.jop_target.specs.declared.tree.Tree.{Tree}
use Rattle.local_store.specs.declared.change.Change.{Change}
use Rattle.local_store.specs.declared.tables.Tables.{Tables}
use Rattle.local_store.specs.Changing.{after_all}
use Rattle.local_store.specs.Sound.{IsAllowed}
use Rattle.local_store.specs.Tables.{new_tables}

-- a step, and the change that is made there, if one is made
pub record TaleStep : Type 0 where
  pub step : Step
  pub change : Option Change

-- what the store held at first, and all that ever happened there, in order
pub record Tale : Type 0 where
  pub opening : Tree
  pub steps : List TaleStep

-- ---- the plain history

abbrev pub plain_steps : List TaleStep → List Step
plain_steps steps = map (λ s. s.step) steps

-- the history without the changes
abbrev pub plain : Tale → History
plain tale = record { opening = tale.opening; steps = plain_steps tale.steps }

-- ---- the changes

-- a change stands beside a step exactly if one is made there
abbrev pub IsBeside : Happening → Option Change → Type 0
IsBeside (Changed number) (Some change) = Unit {0}
IsBeside (Changed number) None = ⊥
IsBeside happening None = Unit {0}
IsBeside happening (Some change) = ⊥

abbrev pub IsToldStep : TaleStep → Type 0
IsToldStep s = IsBeside s.step.happens s.change

-- the change that the client makes in a step, if it makes one
abbrev pub change_of : List ℕ → TaleStep → List Change
change_of client s = if bytes_eq s.step.client client then option_to_list s.change else []

-- all changes that the client makes, in order
unfoldable pub changes_of : List ℕ → List TaleStep → List Change
changes_of client [] = []
changes_of client (s ∷ ss) = change_of client s ++ changes_of client ss

-- the client's tables when this place, counted from 0, is reached
abbrev pub tables_at : Tale → List ℕ → ℕ → Tables
tables_at tale client place = after_all new_tables (changes_of client (take place tale.steps))

-- every change that the client makes is allowed
abbrev pub MakesAllowed : Tale → List ℕ → Type 0
MakesAllowed tale client = All IsAllowed (changes_of client tale.steps)

-- ---- one run

-- the numbers of the changes in a trail, in order
unfoldable pub made_in : List Event → List ℕ
made_in [] = []
made_in (Began ∷ es) = made_in es
made_in (Sent call ∷ es) = made_in es
made_in (Called call reply ∷ es) = made_in es
made_in (Made number ∷ es) = number ∷ made_in es
made_in (Ended ∷ es) = made_in es

-- the numbers from this one on, as many as there are changes
abbrev pub numbers_from : ℕ → List Change → List ℕ
numbers_from n [] = []
numbers_from n (c ∷ cs) = n ∷ numbers_from (n + 1) cs

-- in the list of the run, counted from 0, the number of a change points to the one that is told beside it
abbrev pub PointsInto : List Change → Happening → Option Change → Type 0
PointsInto made (Changed number) (Some change) = slice_get made number ≡ Some change
PointsInto made happening change = Unit {0}

abbrev pub PointsRight : List ℕ → List Change → TaleStep → Type 0
PointsRight client made s = bytes_eq s.step.client client ≡ true → PointsInto made s.step.happens s.change

-- In these steps the client does what stands in the trail of one run. Its changes are those of the run's own list, each
-- in its turn.
pub record IsRun (client : List ℕ) (trail : List Event) (made : List Change) (steps : List TaleStep)
    : Type 0 where
  pub part : part_of client (plain_steps steps) ≡ trail
  pub told : All IsToldStep steps
  pub points : All (PointsRight client made) steps
  pub numbered : made_in trail ≡ numbers_from 0 made
