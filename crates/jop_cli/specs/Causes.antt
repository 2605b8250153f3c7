-- Why a run ends so: the cause of each status.
use Rattle.std.specs.Prelude.{ℕ, ◌+◌, ◌<◌, ◌≡◌, ◌⊎◌, List, [], ◌∷◌, ◌++◌, true, false, Option, Some, None, Err}
use Rattle.client.specs.Outside.{OutsideNow}
use Rattle.conflicts.specs.declared.refusal.Refusal.{Refusal}
use Rattle.conflicts.specs.declared.refusal.Refusal.TheVariants.{TargetOlder, TargetNewer, BadInfo, FailSafe, NoKey}
use Rattle.jop_status.specs.Statuses.{is_refusal}
use Rattle.jop_status.specs.declared.status.Status.{Status}
use Rattle.jop_status.specs.declared.status.Status.TheVariants as statuses
use Rattle.jop_outside.specs.Outside.{HasRisen, SourceNow}
use Rattle.jop_outside.specs.Reading.{WasTooLarge}
use Rattle.jop_base.specs.declared.dir.Dir.TheVariants.{Root}
use Rattle.jop_base.specs.declared.lock_name.LockKind.{LockKind}
use Rattle.jop_base.specs.declared.lock_name.LockKind.TheVariants.{Sync}
use Rattle.jop_base.specs.declared.path.Path.TheVariants.{Info as InfoFile, Lock as LockFile, OldVersion}
use Rattle.jop_target.specs.Replies.{TargetNow}
use Rattle.jop_target.specs.Runs.{has_failed}
use Rattle.jop_target.specs.declared.call.Call.{Call}
use Rattle.jop_target.specs.declared.call.Call.TheVariants.{Delete, Get, Put, List as ListDir}
use Rattle.jop_target.specs.declared.event.Event.{Event}
use Rattle.jop_target.specs.declared.event.Event.TheVariants.{Began, Called, Ended}
use Rattle.jop_target.specs.declared.reply.Listing.{Listing}
use Rattle.jop_target.specs.declared.reply.Reply.{Reply}
use Rattle.jop_target.specs.declared.reply.Reply.TheVariants.{Absent, Done, Listed}
use Rattle.lease.specs.Locks.{own_name}
use Rattle.lease.specs.Outcomes.{HasMissed, IsBlocked}
use Rattle.lease.specs.Phase.{Held, Phase}
use Rattle.lease.specs.Standing.{StandsIn}
use Rattle.lease.specs.declared.error.Seen.{Seen}
use Rattle.lease.specs.declared.lock.Lock.{Lock}
use Rattle.law_licences.specs.Trails.{session_calls}
use Rattle.law_licences.specs.Pages.{emptied_by}
use Rattle.law_licences.specs.Views.{Heard, shown_to}
use Rattle.local_commands.specs.declared.command.LocalCommand.{LocalCommand}
use Rattle.local_commands.specs.declared.local_err.LocalErr.{LocalErr}
use Rattle.local_commands.specs.declared.local_err.LocalErr.TheVariants.{NotFound, NotOne, Sealed, TimeEnd, TooLarge, NoConflict, NotEmpty, NotText, BelowItself}
use Rattle.keeper.specs.Keepers.{IsOfKept, KeeperNow}
use Rattle.key_commands.specs.Hindering.{IsKeyUnhindered}
use Rattle.key_commands.specs.Running.{RunsKeys}
use Rattle.key_commands.specs.declared.key_command.KeyCommand.{KeyCommand}
use Rattle.key_commands.specs.declared.keys_err.KeysErr.{KeysErr}
use Rattle.key_commands.specs.declared.keys_err.KeysErr.TheVariants as keys_errors
use Rattle.local_store.specs.declared.tables.Tables.{Tables}
use Rattle.session_opening.specs.Opening.{IsOldVersion}
use Rattle.sync_info.specs.Json.{info_text}
use Rattle.sync_info.specs.Merge.{merged}
use Rattle.sync_info.specs.declared.info.Info.{Info}
use Rattle.sync_session.specs.Keys.{IsActiveKey, needs_key}
use Rattle.target_upgrade.specs.Reading.{GivesInfo, IsBadReply}
use Rattle.target_upgrade.specs.Steps.{SUPPORTED}
use Rattle.jop_cli.specs.Commands.{used}
use Rattle.local_commands.specs.Commands.{plan_of}
use Rattle.local_commands.specs.Following.{IsUnhindered}
use Rattle.local_commands.specs.Running.{Runs}
use Rattle.jop_cli.specs.Commands.Sessions.{IsClientOf, IsUncalled, NamedSession}
use Rattle.jop_cli.specs.Commands.Tidy.{IsFaulty}
use Rattle.jop_words.specs.declared.verb.Verb.{Verb}
use Rattle.jop_words.specs.declared.verb.Verb.TheVariants as verbs

-- ---- calls, input, and commands on the tables

-- a call was answered `Failed`, and the target's count rose
abbrev pub TargetHasFailed : TargetNow → List Event → TargetNow → Type 0
TargetHasFailed before trail after = (has_failed trail ≡ true) × HasRisen before.faults after.faults

-- the command reads the input, which is past its limit; the number is the limit and one
pub record IsTooLong (verb : Option Verb) (before : SourceNow) (number : ℕ) (after : SourceNow)
    : Type 0 where
  pub limit : ℕ
  pub uses : (used verb).input ≡ Some limit
  pub past : WasTooLarge limit before after
  pub is : number ≡ limit + 1

-- the command is one on the tables, and is refused so
pub record IsRefusedLocally (verb : Option Verb) (before : OutsideNow) (refusal : LocalErr)
    (after : OutsideNow) : Type 0 where
  pub command : LocalCommand
  pub is : verb ≡ Some (verbs.Local command)
  pub runs : Runs (plan_of command) before (Err refusal) after

-- the command is one on master keys, and is refused so
pub record IsRefusedByKeys (verb : Option Verb) (before : OutsideNow) (refusal : KeysErr)
    (after : OutsideNow) : Type 0 where
  pub command : KeyCommand
  pub is : verb ≡ Some (verbs.Keys command)
  pub runs : RunsKeys command before (Err refusal) after

-- ---- the end of a session

-- The trail ends with one session, whole, of the client that the command has; its calls came to this
-- before it ended.
pub record HasEnded (verb : Option Verb) (keeper : KeeperNow) (trail : List Event)
    (Came : LockKind → List ℕ → List Event → Type 0) : Type 0 where
  pub session : NamedSession
  pub uses : (used verb).session ≡ Some session
  pub client : List ℕ
  pub of : IsClientOf session.client keeper client
  pub before : List Event
  pub changes : IsUncalled before
  pub calls : List Event
  pub whole : trail ≡ before ++ Began ∷ (calls ++ Ended ∷ [])
  pub came : Came session.kind client (before ++ Began ∷ calls)

-- the last answer told of a lock in its way
abbrev pub WasBlocked : Option Verb → KeeperNow → List Event → Lock → ℕ → Type 0
WasBlocked verb keeper trail lock now =
    HasEnded verb keeper trail (λ kind client events. IsBlocked kind client events lock now)

-- its lock wasn't shown in time, or was renewed too late
abbrev pub HasLost : Option Verb → KeeperNow → List Event → Seen → Type 0
HasLost verb keeper trail seen =
    HasEnded verb keeper trail
    (λ kind client events. (at : Phase) × HasMissed kind client at events seen)

-- ---- what a session was told under its lease

-- this is the call that was heard last, with its reply
abbrev pub IsHeardLast : Call → Reply → List Heard → Type 0
IsHeardLast call reply calls =
    (earlier : List Heard) × (calls ≡ record { call = call; reply = Some reply } ∷ earlier)

-- an info of this version was got last
pub record HasGot (version : ℕ) (calls : List Heard) : Type 0 where
  pub info : Info
  pub reply : Reply
  pub last : IsHeardLast (Get InfoFile) reply calls
  pub gives : GivesInfo info reply
  pub version_is : info.version ≡ version

-- there was no info, and the old version's file, which was got last, told this version
pub record HasGotOld (version : ℕ) (calls : List Heard) : Type 0 where
  pub now : ℕ
  pub reply : Reply
  pub earlier : List Heard
  pub last : calls ≡ record { call = Get OldVersion; reply = Some reply }
      ∷ record { call = Get InfoFile; reply = Some (Absent now) } ∷ earlier
  pub tells : IsOldVersion version reply

-- the target was found to have this version
abbrev pub HasFoundVersion : ℕ → List Heard → Type 0
HasFoundVersion version calls = HasGot version calls ⊎ HasGotOld version calls

-- an `info.json` that is too large or holds no info was got last
abbrev pub HasGotBad : List Heard → Type 0
HasGotBad calls = (reply : Reply) × IsHeardLast (Get InfoFile) reply calls × IsBadReply reply

-- The root was listed last, and shows no item, while the tables have a base of so many. They are those
-- that are kept, if that is told.
pub record HasListedNone (keeper : KeeperNow) (count : ℕ) (calls : List Heard) : Type 0 where
  pub listing : Listing
  pub last : IsHeardLast (ListDir Root) (Listed listing) calls
  pub tables : Tables
  pub told : IsOfKept keeper.kept tables
  pub rows : emptied_by (shown_to tables listing) ≡ Some count

-- the info was got last, or it was got and then put as this one, and nothing was called since
abbrev pub AreOpening : Info → Reply → List Heard → Type 0
AreOpening info reply calls =
    IsHeardLast (Get InfoFile) reply calls
    ⊎ ((now : ℕ) × (earlier : List Heard) × IsHeardLast (Get InfoFile) reply earlier
    × (calls ≡ record { call = Put InfoFile (info_text info); reply = Some (Done now) } ∷ earlier))

-- A session was opened, and nothing was called since. This info is the client's own and the one that was got, as one.
pub record HasJustOpened (info : Info) (calls : List Heard) : Type 0 where
  pub own : Info
  pub remote : Info
  pub merge : info ≡ merged own remote
  pub reply : Reply
  pub gives : GivesInfo remote reply
  pub last : AreOpening info reply calls

-- The session was just opened, and something waits that is to be sealed with this key, which isn't
-- known. The tables are those that are kept, if that is told.
pub record WantsKey (keeper : KeeperNow) (key : Option (List ℕ)) (calls : List Heard) : Type 0 where
  pub tables : Tables
  pub told : IsOfKept keeper.kept tables
  pub opened : HasJustOpened tables.info calls
  pub needs : needs_key tables ≡ true
  pub active : IsActiveKey tables.info.active.value key

-- A row for each refusal of a session under a lease of this kind: what its calls had come to, and the tables that are
-- kept.
abbrev pub WasRefused : KeeperNow → Refusal → LockKind → List Heard → Type 0
WasRefused keeper (TargetOlder version) kind calls =
    (version < SUPPORTED) × HasFoundVersion version calls
WasRefused keeper (TargetNewer version) kind calls =
    (SUPPORTED < version) × HasFoundVersion version calls
WasRefused keeper BadInfo kind calls = HasGotBad calls
WasRefused keeper (FailSafe count) kind calls = (kind ≡ Sync) × HasListedNone keeper count calls
WasRefused keeper (NoKey key) kind calls = (kind ≡ Sync) × WantsKey keeper key calls

-- It held its lease, and its calls but those about locks, the last one first, had come to this; then
-- its lock was deleted, which is the last call.
pub record HasLeftHaving (Had : LockKind → List Heard → Type 0) (kind : LockKind)
    (client : List ℕ) (trail : List Event) : Type 0 where
  pub before : List Event
  pub stamp : ℕ
  pub held : StandsIn client before (Held kind stamp)
  pub had : Had kind (session_calls before)
  pub reply : Reply
  pub ends : trail ≡ before ++ Called (Delete (LockFile (own_name kind client))) reply ∷ []

-- the session left its lease once its calls had come to this
abbrev pub HasLeftBehind : Option Verb → KeeperNow → List Event
    → (LockKind → List Heard → Type 0) → Type 0
HasLeftBehind verb keeper trail Had = HasEnded verb keeper trail (HasLeftHaving Had)

-- ---- each status

-- A row for each status: its cause. Out of memory no call was answered `Failed`: a failed call is
-- never told as want of memory.
abbrev pub IsExplained : Option Verb → OutsideNow → Status → OutsideNow → Type 0
IsExplained verb before statuses.Ok after = Unit {0}
IsExplained verb before statuses.Usage after = verb ≡ None
IsExplained verb before (statuses.Busy lock now) after =
    WasBlocked verb after.keeper after.line.trail lock now
IsExplained verb before (statuses.LeaseLost seen) after =
    HasLost verb after.keeper after.line.trail seen
IsExplained verb before (statuses.Refused why) after =
    HasLeftBehind verb after.keeper after.line.trail (WasRefused after.keeper why)
IsExplained verb before statuses.TargetFault after =
    TargetHasFailed before.line.target after.line.trail after.line.target
IsExplained verb before statuses.KeeperFault after =
    HasRisen before.keeper.faults after.keeper.faults
IsExplained verb before statuses.SourceFault after =
    HasRisen before.input.faults after.input.faults
IsExplained verb before statuses.SinkFault after = HasRisen before.out.faults after.out.faults
IsExplained verb before statuses.ClockFault after =
    HasRisen before.clock.faults after.clock.faults
IsExplained verb before statuses.EntropyFault after =
    HasRisen before.entropy.faults after.entropy.faults
IsExplained verb before (statuses.NotFound id) after =
    IsRefusedLocally verb before (NotFound id) after
    ⊎ IsRefusedByKeys verb before (keys_errors.NotFound id) after
IsExplained verb before (statuses.NotOne count) after =
    IsRefusedLocally verb before (NotOne count) after
    ⊎ IsRefusedByKeys verb before (keys_errors.NotOne count) after
IsExplained verb before (statuses.Sealed id) after =
    IsRefusedLocally verb before (Sealed id) after
    ⊎ IsRefusedByKeys verb before (keys_errors.Sealed id) after
IsExplained verb before (statuses.TimeEnd id) after =
    IsRefusedLocally verb before (TimeEnd id) after
IsExplained verb before (statuses.TooLarge number) after =
    IsTooLong verb before.input number after.input
    ⊎ IsRefusedLocally verb before (TooLarge number) after
IsExplained verb before (statuses.BadItem bad) after =
    (verb ≡ Some verbs.Tidy) × IsFaulty before.input after.input bad
IsExplained verb before statuses.NoMemory after = has_failed after.line.trail ≡ false
IsExplained verb before (statuses.NoConflict number) after =
    IsRefusedLocally verb before (NoConflict number) after
IsExplained verb before (statuses.NotEmpty id) after =
    IsRefusedLocally verb before (NotEmpty id) after
IsExplained verb before statuses.NotText after =
    IsRefusedLocally verb before NotText after
IsExplained verb before (statuses.BelowItself id) after =
    IsRefusedLocally verb before (BelowItself id) after
IsExplained verb before (statuses.BadPassword key) after =
    IsRefusedByKeys verb before (keys_errors.BadPassword key) after
IsExplained verb before (statuses.NoKey key) after =
    IsRefusedByKeys verb before (keys_errors.NoKey key) after

-- no refusal has its cause
abbrev pub IsUnexplained : Option Verb → OutsideNow → OutsideNow → Type 0
IsUnexplained verb before after =
    (status : Status) → is_refusal status ≡ true → ¬ IsExplained verb before status after

-- Nothing hinders a command. One on the tables or on keys: by what keeper and input tell, and no count of
-- faults rises, that of the output neither. Any other: no refusal has its cause.
abbrev pub NothingHinders : Option Verb → OutsideNow → OutsideNow → Type 0
NothingHinders (Some (verbs.Local command)) before after =
    IsUnhindered (plan_of command) before after × ¬ HasRisen before.out.faults after.out.faults
NothingHinders (Some (verbs.Keys command)) before after =
    IsKeyUnhindered command before after × ¬ HasRisen before.out.faults after.out.faults
NothingHinders verb before after = IsUnexplained verb before after
