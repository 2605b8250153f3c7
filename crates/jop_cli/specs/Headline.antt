-- The promise of the whole, as the first page says it: a part of what is promised of each run. It is
-- told of a history: what all clients did at one store, call by call, with the changes of each one's
-- tables between them.
use Rattle.std.specs.Prelude.{ℕ, ◌≡◌, ◌⊎◌, List, ◌++◌, length, Option, Some, None}
use Rattle.client.specs.Outside.{OutsideNow}
use Rattle.jop_base.specs.declared.lock_name.LockKind.{LockKind}
use Rattle.jop_cli.specs.Commands.{used}
use Rattle.jop_cli.specs.Commands.Sessions.{IsClientOf, IsUncalled, NamedSession, lock_named}
use Rattle.jop_cli.specs.Run.{RunsAsPromised}
use Rattle.jop_status.specs.declared.status.Status.{Status}
use Rattle.jop_target.specs.History.{IsHonest}
use Rattle.jop_target.specs.declared.event.Event.{Event}
use Rattle.jop_words.specs.declared.verb.Verb.{Verb}
use Rattle.keeper.specs.Keepers.{Kept}
use Rattle.law_exclusion.specs.Exclusive.{EndsAllowed, IsExclusive, OthersObeyLease}
use Rattle.law_kept.specs.FairTables.{IsServed, KeepsItem}
use Rattle.law_kept.specs.Trails.{EndsInRun, OthersObey}
use Rattle.lease.specs.Blocked.{WasInTheWay}
use Rattle.lease.specs.Exclusion.{EndsIn, IsTimely}
use Rattle.lease.specs.declared.lock.Lock.{Lock}
use Rattle.local_store.specs.Tale.{Tale, plain}
use Rattle.local_store.specs.declared.tables.Tables.{Tables}

-- ---- versions and locks

-- No other client's write falls within an upgrade, no two upgrades overlap, and each write of a synchroniser, and the
-- first one of each upgrade, lands on the version that its session has read.
abbrev pub IsExclusiveIn : Tale → List ℕ → List Event → Type 0
IsExclusiveIn tale client events =
    IsHonest (plain tale) → IsTimely (plain tale) → EndsAllowed (plain tale) client events
    → OthersObeyLease (plain tale) client → IsExclusive (plain tale)

-- the lock that a busy answer names stood in the way, live
abbrev pub WasLiveIn : Tale → LockKind → List ℕ → List Event → Lock → ℕ → Type 0
WasLiveIn tale kind client events lock now =
    IsHonest (plain tale) → (ends : EndsIn (plain tale) client events)
    → WasInTheWay (plain tale) (length ends.earlier) kind client lock now

-- what a run called is one session of its client, of which that holds in each history
pub record IsSafeSession (session : NamedSession) (status : Status) (after : OutsideNow) : Type 0
  where
    pub client : List ℕ
    pub of : IsClientOf session.client after.keeper client
    pub before : List Event
    pub changes : IsUncalled before
    pub events : List Event
    pub trail : after.line.trail ≡ before ++ events
    pub exclusive : (tale : Tale) → IsExclusiveIn tale client events
    pub busy : (tale : Tale) (lock : Lock) (now : ℕ) → lock_named status ≡ Some (lock, now)
        → WasLiveIn tale session.kind client events lock now

-- nothing is called, but in the session of a command that has one
abbrev pub IsSafe : Option NamedSession → Status → OutsideNow → Type 0
IsSafe None status after = IsUncalled after.line.trail
IsSafe (Some session) status after =
    IsUncalled after.line.trail ⊎ IsSafeSession session status after

-- ---- notes

-- Every text of the note that was saved is current, a conflict note, replaced by a client that had
-- seen it, or removed by a deletion that is recorded.
abbrev pub IsKeptIn : Tale → List ℕ → Tables → OutsideNow → List ℕ → Type 0
IsKeptIn tale client t after id =
    IsServed id tale → EndsInRun tale client t after.line.trail after.made
    → OthersObey id tale client → KeepsItem id tale

-- ---- both

-- What is promised of a run that began with these tables, in whatever history it is its client's last part.
pub record Headline (verb : Option Verb) (before : OutsideNow) (status : Status) (after : OutsideNow)
    : Type 0 where
  pub safe : IsSafe (used verb).session status after
  pub kept : (k : Kept) → before.keeper.kept ≡ Some k
      → (tale : Tale) (client id : List ℕ) → IsKeptIn tale client k.tables after id

-- so it is of each run of which all is promised
abbrev pub RunsHaveHeadline : Type 0
RunsHaveHeadline =
    (verb : Option Verb) (before after : OutsideNow) (status : Status)
    → RunsAsPromised verb before status after → Headline verb before status after
