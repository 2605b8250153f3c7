-- A client at work, and what a change does to it.
use Rattle.std.specs.Prelude.{ℕ, ◌≡◌, ◌⊎◌, List, [], ◌∷◌, ◌++◌, length, option_map, Option, Result, Ok, Err}
use Rattle.std.specs.declared.alloc.AllocError.{AllocError}
use Rattle.jop_target.specs.Trail.{LineNow}
use Rattle.jop_target.specs.declared.event.Event.{Event}
use Rattle.jop_target.specs.declared.event.Event.TheVariants.{Made}
use Rattle.local_store.specs.Changing.{after}
use Rattle.keeper.specs.Keepers.{KeeperNow, Kept, IsOfKept, changed, with_saved_blob}
use Rattle.local_store.specs.Sound.{IsSound}
use Rattle.local_store.specs.declared.change.Change.{Change}
use Rattle.keeper.specs.declared.keeper_err.KeeperErr.{KeeperErr}
use Rattle.keeper.specs.declared.keeper_err.KeeperErr.TheVariants.{Fault, NoMemory}
use Rattle.local_store.specs.declared.tables.Tables.{Tables}

-- its target and what it did there, its keeper, its tables, and the changes that it has made
pub record SiteNow : Type 0 where
  pub line : LineNow
  pub keeper : KeeperNow
  pub tables : Tables
  pub made : List Change

-- a call leaves all but the line as it was
pub record IsSameSite (old new : SiteNow) : Type 0 where
  pub keeper : new.keeper ≡ old.keeper
  pub tables : new.tables ≡ old.tables
  pub made : new.made ≡ old.made

-- the tables are sound, and those that are kept, if that is told
pub record IsTidy (d : SiteNow) : Type 0 where
  pub sound : IsSound d.tables
  pub told : IsOfKept d.keeper.kept d.tables

-- the references by which a client is at work, by their names
pub record Place : Type 0 where
  pub target : ℕ
  pub keeper : ℕ
  pub tables : ℕ
  pub diary : ℕ
  pub made : ℕ

-- ---- a mark of a session

-- one more event is written down
abbrev pub written_down : Event → SiteNow → SiteNow
written_down event d = record d { line = record d.line { trail = d.line.trail ++ event ∷ [] } }

-- it is written down, and nothing else is changed; out of memory nothing is
abbrev pub WritesDown : Event → SiteNow → Result (Unit {0}) AllocError → SiteNow → Type 0
WritesDown event old (Ok done) new = new ≡ written_down event old
WritesDown event old (Err e) new = new ≡ old

-- ---- a change, by each of its parts

-- it is kept, if the keeper tells, or what is kept is as it was
abbrev pub KeepsOr : Change → Option Kept → Result (Unit {0}) KeeperErr → Option Kept → Type 0
KeepsOr change old (Ok done) new = new ≡ option_map (changed change) old
KeepsOr change old (Err e) new = new ≡ old

-- the trail ends with its number, counted from 0, or is as it was
abbrev pub NotesOr : List Change → List Event → Result (Unit {0}) KeeperErr → List Event → Type 0
NotesOr made old (Ok done) new = new ≡ old ++ Made (length made) ∷ []
NotesOr made old (Err e) new = new ≡ old

-- it is the last of those that were made, or these are as they were
abbrev pub AddsOr : Change → List Change → Result (Unit {0}) KeeperErr → List Change → Type 0
AddsOr change old (Ok done) new = new ≡ old ++ change ∷ []
AddsOr change old (Err e) new = new ≡ old

-- ---- a change

-- The change is kept, if the keeper tells, is the last of those that were made, and the trail ends with its number,
-- counted from 0.
pub record IsMadeChange (change : Change) (old new : SiteNow) : Type 0 where
  pub kept : new.keeper.kept ≡ option_map (changed change) old.keeper.kept
  pub line : new.line ≡ record old.line { trail = old.line.trail ++ Made (length old.made) ∷ [] }
  pub made : new.made ≡ old.made ++ change ∷ []

-- but for the count of the keeper's faults, all is as it was
pub record IsUnmade (old new : SiteNow) : Type 0 where
  pub kept : new.keeper.kept ≡ old.keeper.kept
  pub line : new.line ≡ old.line
  pub made : new.made ≡ old.made
  pub tables : new.tables ≡ old.tables

-- all but what the keeper has is as it was
abbrev pub IsSameButKeeper : SiteNow → SiteNow → Type 0
IsSameButKeeper old new =
    (new.line ≡ old.line) × (new.tables ≡ old.tables) × (new.made ≡ old.made)

-- the bytes of a resource are kept, in place of those that were
abbrev pub KeepsBytes : List ℕ → List ℕ → SiteNow → SiteNow → Type 0
KeepsBytes id bytes old new =
    new.keeper.kept ≡ option_map (with_saved_blob id bytes) old.keeper.kept

-- so it is of the last of these changes, if there are any
abbrev pub IfLast : List Change → (Change → Type 0) → Type 0
IfLast changes So =
    (before : List Change) (change : Change) → changes ≡ before ++ change ∷ [] → So change

-- the change was made, and the tables are those after it
pub record IsChanged (change : Change) (old new : SiteNow) : Type 0 where
  pub made : IsMadeChange change old new
  pub tables : new.tables ≡ after old.tables change
  pub tidy : IsTidy new

-- What becomes of a change, by each answer. Memory may run out before the keeper has made it, or behind it: then it is
-- kept and written down, and the tables are still those before.
abbrev pub Commits : Change → SiteNow → Result (Unit {0}) KeeperErr → SiteNow → Type 0
Commits change old (Ok done) new = IsChanged change old new
Commits change old (Err Fault) new = IsUnmade old new
Commits change old (Err NoMemory) new = IsUnmade old new ⊎ IsMadeChange change old new
