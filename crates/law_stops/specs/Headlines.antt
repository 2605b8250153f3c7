-- What is promised of a run of the program that was stopped, by what is promised of the whole run.
use Rattle.std.specs.Prelude.{ℕ, ◌≡◌, ◌⊎◌, List, Option, Some, None}
use Rattle.client.specs.Outside.{OutsideNow}
use Rattle.jop_cli.specs.Commands.{used}
use Rattle.jop_cli.specs.Commands.Sessions.{IsClientOf, NamedSession}
use Rattle.jop_cli.specs.Headline.{IsExclusiveIn}
use Rattle.jop_cli.specs.Run.{RunsAsPromised}
use Rattle.jop_status.specs.declared.status.Status.{Status}
use Rattle.jop_target.specs.declared.event.Event.{Event}
use Rattle.jop_words.specs.declared.verb.Verb.{Verb}
use Rattle.keeper.specs.Keepers.{Kept}
use Rattle.law_kept.specs.FairTables.{IsServed, KeepsItem}
use Rattle.law_kept.specs.Trails.{EndsInRun, OthersObey}
use Rattle.law_stops.specs.Cuts.{IsCutWith}
use Rattle.local_store.specs.Tale.{Tale}
use Rattle.local_store.specs.declared.change.Change.{Change}
use Rattle.local_store.specs.declared.tables.Tables.{Tables}

-- ---- versions and locks

-- no history is less exclusive for it, whosever it was
abbrev pub IsSafeForAll : List Event → Type 0
IsSafeForAll cut = (client : List ℕ) (tale : Tale) → IsExclusiveIn tale client cut

-- nor is one in which it is what the session's client did last
pub record IsSafeLeft (session : NamedSession) (after : OutsideNow) (cut : List Event) : Type 0
  where
    pub client : List ℕ
    pub of : IsClientOf session.client after.keeper client
    pub exclusive : (tale : Tale) → IsExclusiveIn tale client cut

-- one of both, and the first of a command that has no session
abbrev pub IsSafeCut : Option NamedSession → OutsideNow → List Event → Type 0
IsSafeCut None after cut = IsSafeForAll cut
IsSafeCut (Some session) after cut = IsSafeForAll cut ⊎ IsSafeLeft session after cut

-- ---- notes

-- no saved text of the note is lost in a history in which the client did this last
abbrev pub IsKeptCut : Tale → List ℕ → Tables → List Event → List Change → List ℕ → Type 0
IsKeptCut tale client t cut kept id =
    IsServed id tale → EndsInRun tale client t cut kept → OthersObey id tale client →
    KeepsItem id tale

-- ---- both

-- What is promised of what is left of a run that began so and would have ended so.
pub record StoppedHeadline (verb : Option Verb) (before after : OutsideNow) (cut : List Event)
    (kept : List Change) : Type 0 where
  pub safe : IsSafeCut (used verb).session after cut
  pub notes : (k : Kept) → before.keeper.kept ≡ Some k →
      (tale : Tale) (client id : List ℕ) → IsKeptCut tale client k.tables cut kept id

-- so it is of each run of which all is promised, wherever it was stopped
abbrev pub StoppedRunsHaveHeadline : Type 0
StoppedRunsHaveHeadline =
    (verb : Option Verb) (before after : OutsideNow) (status : Status) (cut : List Event)
    (kept : List Change) → RunsAsPromised verb before status after →
    IsCutWith after.line.trail after.made cut kept → StoppedHeadline verb before after cut kept
