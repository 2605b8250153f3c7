-- What each stage of a run comes to.
use Rattle.std.specs.Prelude.{ℕ, ◌≤◌, ◌≡◌, List, Bool, true, false, Option, Some, None, option_map, Result, Ok, Err}
use Rattle.client.specs.Outside.{OutsideNow}
use Rattle.jop_base.specs.Times.{last_time}
use Rattle.jop_outside.specs.Clocks.{ClockNow}
use Rattle.jop_outside.specs.Outside.{HasRisen, SourceNow}
use Rattle.jop_outside.specs.Random.{EntropyNow}
use Rattle.jop_outside.specs.declared.failed.Failed.{Failed}
use Rattle.local_store.specs.Sound.{IsSound}
use Rattle.local_store.specs.declared.tables.Tables.{Tables}
use Rattle.local_commands.specs.declared.drawing.Drawing.{Drawing}
use Rattle.local_commands.specs.declared.drawing.Ids.{Ids}
use Rattle.local_commands.specs.declared.intake.Intake.{Intake}
use Rattle.local_commands.specs.declared.local_err.LocalErr.{LocalErr}
use Rattle.local_commands.specs.declared.local_err.LocalErr.TheVariants.{SourceFault, NotFound, NotOne, Sealed, TimeEnd, NotEmpty, BelowItself, NoConflict, TooLarge, NotText, NoMemory}
use Rattle.local_commands.specs.declared.needs.Needs.{Needs}
use Rattle.local_commands.specs.declared.supply.Supply.{Supply}
use Rattle.local_commands.specs.declared.work.Work.{Work}
use Rattle.local_commands.specs.Drawing.{AreDrawn, DrawsIds, FailsToDraw, IsNewId, IsSecondId}
use Rattle.local_commands.specs.Keeping.{AreAllowed, AreLocal}
use Rattle.local_commands.specs.Running.{Plan, IsUnsaved, Runs}
use Rattle.local_commands.specs.Sparing.{Spares, SparesClock, SparesInput, SparesRandom, draws_ids, intake_limit}
use Rattle.local_commands.specs.Taking.{FailsToGive, GivesNoText, GivesTooMuch, IsTakenIn, ShowsTime, Takes}

-- ---- what the tables say

-- the refusals that are the tables' to give
abbrev pub IsOfTables : LocalErr → Type 0
IsOfTables (NotFound id) = Unit {0}
IsOfTables (NotOne count) = Unit {0}
IsOfTables (Sealed id) = Unit {0}
IsOfTables (TimeEnd id) = Unit {0}
IsOfTables (NotEmpty id) = Unit {0}
IsOfTables (BelowItself id) = Unit {0}
IsOfTables (NoConflict number) = Unit {0}
IsOfTables refusal = ⊥

-- what a check comes to: the tables refuse a command with no word, or with this one
abbrev pub ChecksOr : (Option LocalErr → Type 0) → Result (Unit {0}) LocalErr → Type 0
ChecksOr Checks (Ok done) = Checks None
ChecksOr Checks (Err refusal) = IsOfTables refusal × Checks (Some refusal)

-- ---- the input

-- the input was taken whole, or isn't used; or it ended the command by this refusal
abbrev pub TakesOr : Option Intake → SourceNow → Result (List ℕ) LocalErr → SourceNow → Type 0
TakesOr intake old (Ok bytes) new = Takes intake old bytes new
TakesOr intake old (Err SourceFault) new = FailsToGive intake old new
TakesOr intake old (Err (TooLarge len)) new = GivesTooMuch len intake old new
TakesOr intake old (Err NotText) new = GivesNoText intake old new
TakesOr intake old (Err NoMemory) new = new.faults ≡ old.faults
TakesOr intake old (Err refusal) new = ⊥

-- what the taking of an input comes to; all else is as it was
pub record TakesInput (intake : Option Intake) (old : OutsideNow)
    (result : Result (List ℕ) LocalErr) (new : OutsideNow) : Type 0 where
  pub takes : TakesOr intake old.input result new.input
  pub spares : SparesInput (option_map intake_limit intake) old.input new.input
  pub same : new ≡ record old { input = new.input }

-- ---- the clock

-- the clock showed the time, or isn't used; or it is used, and failed
abbrev pub TimesOr : Bool → ClockNow → Result ℕ Failed → ClockNow → Type 0
TimesOr uses old (Ok now) new = ShowsTime uses old now new
TimesOr uses old (Err e) new = (uses ≡ true) × HasRisen old.faults new.faults

-- what a look at the clock comes to, by a command that uses it; all else is as it was
pub record LooksAtClock (uses : Bool) (old : OutsideNow) (result : Result ℕ Failed)
    (new : OutsideNow) : Type 0 where
  pub times : TimesOr uses old.clock result new.clock
  pub spares : SparesClock uses old.clock new.clock
  pub same : new ≡ record old { clock = new.clock }

-- ---- the ids

-- a new id was drawn, or the random source failed
abbrev pub NewIdOr : Tables → EntropyNow → Result (List ℕ) Failed → EntropyNow → Type 0
NewIdOr t old (Ok id) new = IsNewId t old id new
NewIdOr t old (Err e) new = HasRisen old.faults new.faults

-- an id was drawn that is new and isn't this other one, or the random source failed
abbrev pub SecondIdOr : Tables → List ℕ → EntropyNow → Result (List ℕ) Failed → EntropyNow → Type 0
SecondIdOr t other old (Ok id) new = IsSecondId t other old id new
SecondIdOr t other old (Err e) new = HasRisen old.faults new.faults

-- what a use of the random source alone comes to; all else is as it was
pub record DrawsAlone {T : Type 0} (Draws : EntropyNow → Result T Failed → EntropyNow → Type 0)
    (old : OutsideNow) (result : Result T Failed) (new : OutsideNow) : Type 0 where
  pub draws : Draws old.entropy result new.entropy
  pub same : new ≡ record old { entropy = new.entropy }

-- the ids were drawn, or the random source is used, and failed
abbrev pub DrawsIdsOr : Drawing → Tables → EntropyNow → Result Ids Failed → EntropyNow → Type 0
DrawsIdsOr drawing t old (Ok ids) new = DrawsIds drawing t old ids new
DrawsIdsOr drawing t old (Err e) new = FailsToDraw drawing old new

-- what the drawing of all ids comes to; all else is as it was
pub record DrawsAll (drawing : Drawing) (t : Tables) (old : OutsideNow) (result : Result Ids Failed)
    (new : OutsideNow) : Type 0 where
  pub draws : DrawsIdsOr drawing t old.entropy result new.entropy
  pub spares : SparesRandom (draws_ids drawing) old.entropy new.entropy
  pub same : new ≡ record old { entropy = new.entropy }

-- ---- all that a command needs

-- what a plan needs beside the tables
abbrev pub needs_of : Plan → Needs
needs_of p = record { intake = p.intake; clock = p.clock; draws = p.draws }

-- it was taken, shown and drawn as the plan says
pub record IsSupplied (p : Plan) (t : Tables) (old : OutsideNow) (supply : Supply)
    (new : OutsideNow) : Type 0 where
  pub takes : Takes p.intake old.input supply.input new.input
  pub shows : ShowsTime p.clock old.clock supply.now new.clock
  pub draws : DrawsIds p.draws t old.entropy supply.ids new.entropy

-- there is all of it, or the run ends with this refusal
abbrev pub SuppliesOr : Plan → Tables → OutsideNow → Result Supply LocalErr → OutsideNow → Type 0
SuppliesOr p t old (Ok supply) new = IsSupplied p t old supply new
SuppliesOr p t old (Err refusal) new = Runs p old (Err refusal) new

-- what the fetching of all that comes to; nothing is saved by it
pub record Supplies (p : Plan) (t : Tables) (old : OutsideNow) (result : Result Supply LocalErr)
    (new : OutsideNow) : Type 0 where
  pub comes : SuppliesOr p t old result new
  pub spares : Spares p old new
  pub unsaved : IsUnsaved old new

-- ---- what is made

-- the tables allow the command, and it has what it needs
pub record IsReadyFor (p : Plan) (t : Tables) (supply : Supply) : Type 0 where
  pub sound : IsSound t
  pub passed : p.Checks t None
  pub fit : IsTakenIn p.intake supply.input
  pub time : supply.now ≤ last_time
  pub drawn : AreDrawn p.draws supply.ids

-- What the making of a work comes to, in which bytes of a resource may be saved or not: acts of a user.
-- Only for its length is one refused, once the tables allow it.
abbrev pub MakesActsOr : Bool → (Result Work LocalErr → Type 0) → Result Work LocalErr → Type 0
MakesActsOr bytes Makes (Ok work) =
    Makes (Ok work) × AreAllowed work.acts × AreLocal bytes work.acts
MakesActsOr bytes Makes (Err (TooLarge len)) = Makes (Err (TooLarge len))
MakesActsOr bytes Makes (Err NoMemory) = Unit {0}
MakesActsOr bytes Makes (Err refusal) = ⊥

-- the same where none are saved
abbrev pub MakesOr : (Result Work LocalErr → Type 0) → Result Work LocalErr → Type 0
MakesOr Makes result = MakesActsOr false Makes result

-- what a plan makes of its needs
abbrev pub MakesWork : Plan → Tables → Supply → Result Work LocalErr → Type 0
MakesWork p t supply result =
    MakesActsOr p.bytes (p.Makes t supply.input supply.now supply.ids) result
