-- What a run of a local command comes to. One order holds for all of them: the tables are read; they have to allow the
-- command; the input is taken; the clock shows the time; ids are drawn; the acts are done; the text is printed.
use Rattle.std.specs.Prelude.{ℕ, ◌≡◌, ◌⊎◌, List, [], ◌∷◌, Bool, true, false, Option, Some, None, Result, Ok, Err, IfOk}
use Rattle.client.specs.Outside.{AreKeptTables, HasKeeperFailed, OutsideNow}
use Rattle.jop_outside.specs.Outside.{HasRisen, SourceNow}
use Rattle.local_store.specs.declared.change.Change.{Change}
use Rattle.local_store.specs.declared.tables.Tables.{Tables}
use Rattle.local_commands.specs.declared.act.Act.TheVariants.{MakeChange}
use Rattle.local_commands.specs.declared.drawing.Drawing.{Drawing}
use Rattle.local_commands.specs.declared.drawing.Drawing.TheVariants.{NoId}
use Rattle.local_commands.specs.declared.drawing.Ids.{Ids}
use Rattle.local_commands.specs.declared.intake.Intake.{Intake}
use Rattle.local_commands.specs.declared.local_err.LocalErr.{LocalErr}
use Rattle.local_commands.specs.declared.local_err.LocalErr.TheVariants.{KeeperFault, SourceFault, ClockFault, EntropyFault, NotFound, NotOne, Sealed, TimeEnd, NotEmpty, BelowItself, NoConflict, TooLarge, NotText, NoMemory}
use Rattle.local_commands.specs.declared.work.Work.{Work}
use Rattle.local_commands.specs.Drawing.{DrawsIds, FailsToDraw}
use Rattle.local_commands.specs.Keeping.{AreDone, AreLocal, DoesSome}
use Rattle.local_commands.specs.Taking.{Takes, FailsToGive, GivesTooMuch, GivesNoText, ShowsTime}

-- ---- the command

-- nothing is done, and this is printed
abbrev pub only_text : List ℕ → Work
only_text text = record { acts = []; text = text }

-- one change is made, and this is printed
abbrev pub one_change : Change → List ℕ → Work
one_change change text = record { acts = MakeChange change ∷ []; text = text }

-- A command: what the tables have to allow, what it takes, whether it may save the bytes of a resource,
-- and what it makes of tables, input, time and ids.
pub record Plan : Type 1 where
  -- the tables refuse it with this word, or with none
  pub Checks : Tables → Option LocalErr → Type 0
  pub intake : Option Intake
  pub clock : Bool
  pub draws : Drawing
  pub bytes : Bool
  pub Makes : Tables → List ℕ → ℕ → Ids → Result Work LocalErr → Type 0

-- a command that takes nothing but the tables, and saves no bytes
abbrev pub of_tables : (Tables → Option LocalErr → Type 0)
    → (Tables → Result Work LocalErr → Type 0) → Plan
of_tables Checks Makes = record {
  Checks = Checks;
  intake = None;
  clock = false;
  draws = NoId;
  bytes = false;
  Makes = λ t input now ids made. Makes t made;
}

-- ---- the outside

-- nothing is saved, and nothing is written down
pub record IsUnsaved (old new : OutsideNow) : Type 0 where
  pub keeper : new.keeper ≡ old.keeper
  pub line : new.line ≡ old.line
  pub made : new.made ≡ old.made

-- ---- how far it came

-- the tables were read, and allow it
pub record IsAllowedBy (p : Plan) (old : OutsideNow) (t : Tables) : Type 0 where
  pub kept : AreKeptTables old.keeper t
  pub passed : p.Checks t None

-- and the input was taken
pub record IsFed (p : Plan) (old new : OutsideNow) (t : Tables) (input : List ℕ) : Type 0 where
  pub allowed : IsAllowedBy p old t
  pub takes : Takes p.intake old.input input new.input

-- and the clock showed the time
pub record IsTimed (p : Plan) (old new : OutsideNow) (t : Tables) (input : List ℕ) (now : ℕ)
    : Type 0 where
  pub fed : IsFed p old new t input
  pub shows : ShowsTime p.clock old.clock now new.clock

-- and the ids were drawn, and this is what is made of all that: acts of a user, if it isn't refused
pub record IsMade (p : Plan) (old new : OutsideNow) (made : Result Work LocalErr) : Type 0 where
  pub tables : Tables
  pub input : List ℕ
  pub now : ℕ
  pub ids : Ids
  pub timed : IsTimed p old new tables input now
  pub draws : DrawsIds p.draws tables old.entropy ids new.entropy
  pub makes : p.Makes tables input now ids made
  pub local : IfOk made (λ work. AreLocal p.bytes work.acts)

-- ---- well

-- all acts were done and written down, and this is the text to print
pub record IsDone (p : Plan) (old new : OutsideNow) (text : List ℕ) : Type 0 where
  pub work : Work
  pub made : IsMade p old new (Ok work)
  pub done : AreDone work.acts old new
  pub unfailed : new.keeper.faults ≡ old.keeper.faults
  pub prints : text ≡ work.text

-- ---- otherwise

-- the tables don't allow it, and nothing else was used
pub record IsRefusedByTables (p : Plan) (old new : OutsideNow) (refusal : LocalErr) : Type 0 where
  pub tables : Tables
  pub kept : AreKeptTables old.keeper tables
  pub checks : p.Checks tables (Some refusal)
  pub same : new ≡ old

-- the input ended it, and nothing else was used
pub record IsEndedByInput (p : Plan) (old new : OutsideNow)
    (Ends : Option Intake → SourceNow → SourceNow → Type 0) : Type 0 where
  pub tables : Tables
  pub allowed : IsAllowedBy p old tables
  pub ends : Ends p.intake old.input new.input
  pub clock : new.clock ≡ old.clock
  pub entropy : new.entropy ≡ old.entropy
  pub unsaved : IsUnsaved old new

-- the clock failed, and the random source wasn't used
pub record IsEndedByClock (p : Plan) (old new : OutsideNow) : Type 0 where
  pub tables : Tables
  pub input : List ℕ
  pub fed : IsFed p old new tables input
  pub uses : p.clock ≡ true
  pub risen : HasRisen old.clock.faults new.clock.faults
  pub entropy : new.entropy ≡ old.entropy
  pub unsaved : IsUnsaved old new

-- the random source failed
pub record IsEndedByEntropy (p : Plan) (old new : OutsideNow) : Type 0 where
  pub tables : Tables
  pub input : List ℕ
  pub now : ℕ
  pub timed : IsTimed p old new tables input now
  pub fails : FailsToDraw p.draws old.entropy new.entropy
  pub unsaved : IsUnsaved old new

-- what is made is refused, and nothing was saved
pub record IsUnmakeable (p : Plan) (old new : OutsideNow) (refusal : LocalErr) : Type 0 where
  pub made : IsMade p old new (Err refusal)
  pub unsaved : IsUnsaved old new

-- what was to be done was done in part, the first acts first
pub record IsCutShort (p : Plan) (old new : OutsideNow) : Type 0 where
  pub work : Work
  pub made : IsMade p old new (Ok work)
  pub does : DoesSome work.acts old new

-- the keeper failed at its reading, or at an act
abbrev pub IsEndedByKeeper : Plan → OutsideNow → OutsideNow → Type 0
IsEndedByKeeper p old new =
    HasKeeperFailed old new
    ⊎ (IsCutShort p old new × HasRisen old.keeper.faults new.keeper.faults)

-- neither the keeper failed, nor the input, nor the clock, nor the random source
pub record NoneHasFailed (old new : OutsideNow) : Type 0 where
  pub keeper : new.keeper.faults ≡ old.keeper.faults
  pub input : new.input.faults ≡ old.input.faults
  pub clock : new.clock.faults ≡ old.clock.faults
  pub entropy : new.entropy.faults ≡ old.entropy.faults

-- memory ran out, before anything was saved, or at an act; a failure is never told as that
abbrev pub IsEndedByMemory : Plan → OutsideNow → OutsideNow → Type 0
IsEndedByMemory p old new = (IsUnsaved old new ⊎ IsCutShort p old new) × NoneHasFailed old new

-- ---- each answer, by its cause

abbrev pub Runs : Plan → OutsideNow → Result (List ℕ) LocalErr → OutsideNow → Type 0
Runs p old (Ok text) new = IsDone p old new text
Runs p old (Err KeeperFault) new = IsEndedByKeeper p old new
Runs p old (Err (NotFound id)) new = IsRefusedByTables p old new (NotFound id)
Runs p old (Err (NotOne count)) new = IsRefusedByTables p old new (NotOne count)
Runs p old (Err (Sealed id)) new = IsRefusedByTables p old new (Sealed id)
Runs p old (Err (TimeEnd id)) new = IsRefusedByTables p old new (TimeEnd id)
Runs p old (Err (NotEmpty id)) new = IsRefusedByTables p old new (NotEmpty id)
Runs p old (Err (BelowItself id)) new = IsRefusedByTables p old new (BelowItself id)
Runs p old (Err (NoConflict number)) new = IsRefusedByTables p old new (NoConflict number)
Runs p old (Err SourceFault) new = IsEndedByInput p old new FailsToGive
Runs p old (Err (TooLarge len)) new =
    IsEndedByInput p old new (GivesTooMuch len) ⊎ IsUnmakeable p old new (TooLarge len)
Runs p old (Err NotText) new = IsEndedByInput p old new GivesNoText
Runs p old (Err ClockFault) new = IsEndedByClock p old new
Runs p old (Err EntropyFault) new = IsEndedByEntropy p old new
Runs p old (Err NoMemory) new = IsEndedByMemory p old new
