-- What one client's last run promises, behind what it did before and beside what the others do.
use Rattle.std.specs.Prelude.{◌≡◌, ℕ, List, [], ◌∷◌, ◌++◌, All, true, bytes_eq}
use Rattle.jop_target.specs.History.{Happening, Stopped}
use Rattle.jop_target.specs.declared.event.Event.{Event}
use Rattle.local_store.specs.Tale.{Tale, TaleStep, IsRun}
use Rattle.local_store.specs.declared.change.Change.{Change}
use Rattle.local_store.specs.declared.tables.Tables.{Tables}
use Rattle.law_licences.specs.Deeds.{Deed, Stops, deeds_in, deeds_of}
use Rattle.law_licences.specs.Licences.{ObeysBySome, ObeysData}
use Rattle.law_licences.specs.Sealing.{Sealing, no_keys}
use Rattle.law_licences.specs.Views.{at_rest, view_from}
use Rattle.law_licences.specs.Items.{item_of_file}
use Rattle.law_kept.specs.Fair.{DoesAsItMay}
use Rattle.law_kept.specs.FairTables.{new_view, IsServed, KeepsItem}
use Rattle.law_kept.specs.Telling.{steps_of}

abbrev pub IsStop : Happening → Type 0
IsStop Stopped = Unit {0}
IsStop happening = ⊥

-- the client isn't stopped there
abbrev pub IsUnstopped : List ℕ → TaleStep → Type 0
IsUnstopped client s = bytes_eq s.step.client client ≡ true → ¬ IsStop s.step.happens

-- nothing is done, but that the program may be stopped
unfoldable pub AreStops : List Deed → Type 0
AreStops [] = Unit {0}
AreStops (Stops ∷ ds) = AreStops ds
AreStops (d ∷ ds) = ⊥

-- All that the client did by some place has its licences, and left it in no session, with these
-- tables. Then comes one run, in which it did what this trail and this list of changes tell, and
-- nothing later.
pub record EndsInRun (tale : Tale) (client : List ℕ) (t : Tables) (trail : List Event)
    (made : List Change) : Type 0 where
  pub earlier : List TaleStep
  pub run : List TaleStep
  pub later : List TaleStep
  pub steps : tale.steps ≡ earlier ++ (run ++ later)
  pub obeyed : ObeysBySome new_view (deeds_in client earlier)
  pub left : view_from new_view (deeds_in client earlier) ≡ at_rest no_keys t
  pub told : IsRun client trail made run
  pub whole : All (IsUnstopped client) run
  pub over : AreStops (deeds_in client later)

-- Each other client does with the item what it may, by its own calls and changes. What it does besides, and whether the
-- text that it puts is plain or sealed, is its own matter.
abbrev pub OthersObey : List ℕ → Tale → List ℕ → Type 0
OthersObey id tale client =
    (other : List ℕ) → ¬ (other ≡ client) → DoesAsItMay (item_of_file id) (steps_of id tale) other

-- Whatever history this run is a client's last part of: if the store tells the truth, no other put
-- lands between a check and a put, and all others do with a note what they may, then no saved text of it is lost.
abbrev pub KeepsNotes : List ℕ → Tables → List Event → List Change → Type 0
KeepsNotes client t trail made =
    (id : List ℕ) (tale : Tale) → IsServed id tale → EndsInRun tale client t trail made
    → OthersObey id tale client → KeepsItem id tale

-- so it is of each run that obeys from the tables with which it began, whatever its keys
abbrev pub ObeyingRunsKeepNotes : Type 0
ObeyingRunsKeepNotes =
    (client : List ℕ) (s : Sealing) (t : Tables) (trail : List Event) (made : List Change) →
    ObeysData (at_rest s t) (deeds_of trail made) → KeepsNotes client t trail made
