-- Commands that run a session on a target.
use Rattle.std.specs.Prelude.{ℕ, ◌≡◌, ◌⊎◌, List, All, Bool, true, false, Option, Some, None, Result, Ok, Err}
use Rattle.client.specs.Outside.{OutsideNow}
use Rattle.client.specs.Owning.{NamesClient, Owns}
use Rattle.client.specs.declared.own_err.OwnErr.{OwnErr}
use Rattle.jop_base.specs.declared.lock_name.LockKind.{LockKind}
use Rattle.jop_status.specs.Outcomes.{Outcome}
use Rattle.jop_status.specs.Refusals.{own_status, session_status}
use Rattle.jop_status.specs.declared.status.Status.{Status}
use Rattle.jop_status.specs.declared.status.Status.TheVariants as statuses
use Rattle.jop_target.specs.declared.event.Event.{Event}
use Rattle.jop_target.specs.declared.event.Event.TheVariants.{Made}
use Rattle.keeper.specs.Keepers.{KeeperNow}
use Rattle.lease.specs.declared.lock.Lock.{Lock}
use Rattle.sync_run.specs.declared.session_err.SessionErr.{SessionErr}

-- ---- what a command comes to

-- the text of what a session answered, or why it ended
abbrev pub outcome_by : {T : Type 0} → (T → List ℕ) → Result T SessionErr → Outcome
outcome_by text (Ok value) = Ok (text value)
outcome_by text (Err error) = Err (session_status error)

-- ---- a trail without a session

abbrev pub IsChange : Event → Type 0
IsChange (Made number) = Unit {0}
IsChange event = ⊥

-- a trail in which nothing is called: only changes are made
abbrev pub IsUncalled : List Event → Type 0
IsUncalled trail = All IsChange trail

-- ---- whose session it is

-- one session of this kind, for the client that the words name, or else for that of the tables
pub record NamedSession : Type 0 where
  pub kind : LockKind
  pub client : Option (List ℕ)

-- the client of the words, or the one that the tables name in the end, if they are told
abbrev pub IsClientOf : Option (List ℕ) → KeeperNow → List ℕ → Type 0
IsClientOf (Some named) keeper client = client ≡ named
IsClientOf None keeper client = NamesClient keeper.kept (Some client)

-- it isn't known, and nothing was run
pub record IsUnowned (before : OutsideNow) (outcome : Outcome) (after : OutsideNow) : Type 0 where
  pub error : OwnErr
  pub owns : Owns before (Err error) after
  pub is : outcome ≡ Err (own_status error)

-- it is known, or was named, and then it ran this
pub record OwnRan {R : Type 0} (Ran : List ℕ → OutsideNow → R → OutsideNow → Type 0)
    (told : R → Outcome) (before : OutsideNow) (outcome : Outcome) (after : OutsideNow)
    : Type 0 where
  pub client : List ℕ
  pub named : OutsideNow
  pub owns : Owns before (Ok client) named
  pub result : R
  pub ran : Ran client named result after
  pub is : outcome ≡ told result

-- what a command comes to that runs this as the client that the tables name
abbrev pub OwnRuns : {R : Type 0} → (List ℕ → OutsideNow → R → OutsideNow → Type 0) →
    (R → Outcome) → OutsideNow → Outcome → OutsideNow → Type 0
OwnRuns Ran told before outcome after =
    IsUnowned before outcome after ⊎ OwnRan Ran told before outcome after

-- ---- how a session is told

-- the lock that an exit status says is in the way, and the moment at which it was seen
abbrev pub lock_named : Status → Option (Lock × ℕ)
lock_named (statuses.Busy lock now) = Some (lock, now)
lock_named status = None

-- whether an exit status says that the command's session went well
abbrev pub went_well : Status → Bool
went_well statuses.Ok = true
went_well statuses.SinkFault = true
went_well status = false
