-- The outside of a run, and what is done with it.
use Rattle.std.specs.Prelude.{ℕ, ◌≤◌, ◌≡◌, List, [], ◌∷◌, ◌++◌, length, option_map, Result, Ok, Err}
use Rattle.client.specs.Drawing.{Draws}
use Rattle.jop_base.specs.Times.{last_time}
use Rattle.jop_outside.specs.Clocks.{ClockNow, Shows}
use Rattle.jop_outside.specs.Outside.{HasRisen, SinkNow, SourceNow}
use Rattle.jop_outside.specs.Random.{EntropyNow}
use Rattle.jop_outside.specs.Reading.{IsRestOf, ReadsAll}
use Rattle.jop_outside.specs.declared.failed.Failed.{Failed}
use Rattle.jop_outside.specs.declared.reading.ReadErr.{ReadErr}
use Rattle.jop_target.specs.Trail.{LineNow}
use Rattle.jop_target.specs.declared.event.Event.TheVariants.{Made}
use Rattle.keeper.specs.Keepers.{IsOfKept, KeeperNow, changed, with_saved_blob}
use Rattle.keeper.specs.declared.keeper_err.KeeperErr.{KeeperErr}
use Rattle.keeper.specs.declared.keeper_err.KeeperErr.TheVariants.{Fault, NoMemory}
use Rattle.local_store.specs.Sound.{IsSound}
use Rattle.local_store.specs.declared.change.Change.{Change}
use Rattle.local_store.specs.declared.tables.Tables.{Tables}

-- ---- the outside

-- What each object of the outside tells of itself, and how often it has failed; and what the run has written down so
-- far: event by event what it did, and the changes that it made.
pub record OutsideNow : Type 0 where
  pub line : LineNow
  pub keeper : KeeperNow
  pub made : List Change
  pub input : SourceNow
  pub out : SinkNow
  pub clock : ClockNow
  pub entropy : EntropyNow

-- the references by which a run works with it, by their names
pub record OutsidePlace : Type 0 where
  pub target : ℕ
  pub keeper : ℕ
  pub diary : ℕ
  pub made : ℕ
  pub input : ℕ
  pub out : ℕ
  pub clock : ℕ
  pub entropy : ℕ

-- ---- the keeper

-- these are the tables that are kept, if that is told, and they are sound
pub record AreKeptTables (keeper : KeeperNow) (t : Tables) : Type 0 where
  pub told : IsOfKept keeper.kept t
  pub sound : IsSound t

-- the keeper failed, and keeps what it kept; all else is as it was
pub record HasKeeperFailed (old new : OutsideNow) : Type 0 where
  pub risen : HasRisen old.keeper.faults new.keeper.faults
  pub same : new ≡ record old { keeper = record new.keeper { kept = old.keeper.kept } }

-- what a reading of the tables comes to
abbrev pub ReadsTables : OutsideNow → Result Tables KeeperErr → OutsideNow → Type 0
ReadsTables old (Ok t) new = AreKeptTables old.keeper t × (new ≡ old)
ReadsTables old (Err Fault) new = HasKeeperFailed old new
ReadsTables old (Err NoMemory) new = new ≡ old

-- A change is kept, if the keeper tells, is the last of those that were made, and the trail ends with its number,
-- counted from 0.
abbrev pub with_change : Change → OutsideNow → OutsideNow
with_change change o = record o {
  line = record o.line { trail = o.line.trail ++ Made (length o.made) ∷ [] };
  keeper = record o.keeper { kept = option_map (changed change) o.keeper.kept };
  made = o.made ++ change ∷ [];
}

-- the bytes of a resource are saved, if the keeper tells
abbrev pub with_bytes : List ℕ → List ℕ → OutsideNow → OutsideNow
with_bytes id bytes o = record o {
  keeper = record o.keeper { kept = option_map (with_saved_blob id bytes) o.keeper.kept };
}

-- what is done to the keeper is done whole, or nothing is
abbrev pub DoesOr : (OutsideNow → OutsideNow) → OutsideNow → Result (Unit {0}) KeeperErr → OutsideNow → Type 0
DoesOr does old (Ok done) new = new ≡ does old
DoesOr does old (Err Fault) new = HasKeeperFailed old new
DoesOr does old (Err NoMemory) new = new ≡ old

-- ---- the input

-- no more than the limit and a byte was read, and the count of faults didn't fall
pub record IsReadOf (limit : ℕ) (old new : SourceNow) : Type 0 where
  pub later : old.faults ≤ new.faults
  pub rest : IsRestOf limit old.left new.left

-- what a reading of the input comes to; all else is as it was
pub record ReadsInput (limit : ℕ) (old : OutsideNow) (result : Result (List ℕ) ReadErr) (new : OutsideNow)
    : Type 0 where
  pub reads : ReadsAll limit old.input result new.input
  pub within : IsReadOf limit old.input new.input
  pub same : new ≡ record old { input = new.input }

-- ---- the clock

-- the clock showed this time
pub record WasShown (old : ClockNow) (now : ℕ) (new : ClockNow) : Type 0 where
  pub shown : Shows old.next (Ok now) new.next
  pub time : now ≤ last_time
  pub stays : new.faults ≡ old.faults

abbrev pub ShowsOr : ClockNow → Result ℕ Failed → ClockNow → Type 0
ShowsOr old (Ok now) new = WasShown old now new
ShowsOr old (Err e) new = HasRisen old.faults new.faults

-- what a look at the clock comes to; all else is as it was
pub record TellsTime (old : OutsideNow) (result : Result ℕ Failed) (new : OutsideNow) : Type 0 where
  pub shows : ShowsOr old.clock result new.clock
  pub same : new ≡ record old { clock = new.clock }

-- ---- the random source

-- this id was drawn
pub record WasDrawn (old : EntropyNow) (drawn : List ℕ) (new : EntropyNow) : Type 0 where
  pub draws : Draws old.left (Ok drawn) new.left
  pub stays : new.faults ≡ old.faults

abbrev pub DrawsOr : EntropyNow → Result (List ℕ) Failed → EntropyNow → Type 0
DrawsOr old (Ok id) new = WasDrawn old id new
DrawsOr old (Err e) new = HasRisen old.faults new.faults

-- what the drawing of an id comes to; all else is as it was
pub record DrawsId (old : OutsideNow) (result : Result (List ℕ) Failed) (new : OutsideNow) : Type 0 where
  pub draws : DrawsOr old.entropy result new.entropy
  pub same : new ≡ record old { entropy = new.entropy }
