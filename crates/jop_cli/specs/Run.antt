-- What a run of the program comes to.
use Rattle.std.specs.Prelude.{ℕ, ◌≤◌, ◌≡◌, ◌⊎◌, List, [], ◌++◌, Bool, true, false}
use Rattle.std.specs.Prelude.{Option, Some, None, Ok, option_map}
use Rattle.client.specs.Outside.{OutsideNow}
use Rattle.conflicts.specs.declared.refusal.Refusal.{Refusal}
use Rattle.download.specs.Emptied.{HeedsEmptied}
use Rattle.jop_status.specs.Outcomes.{Outcome}
use Rattle.jop_status.specs.declared.status.Status.{Status}
use Rattle.jop_status.specs.declared.status.Status.TheVariants as statuses
use Rattle.jop_outside.specs.Outside.{HasRisen}
use Rattle.jop_outside.specs.Writing.{WasCut, WasWritten}
use Rattle.jop_target.specs.declared.event.Event.{Event}
use Rattle.jop_target.specs.Runs.{TellsRun, has_failed}
use Rattle.jop_target.specs.Replies.{TargetNow}
use Rattle.law_kept.specs.Trails.{KeepsNotes}
use Rattle.law_licences.specs.Deeds.{deeds_of}
use Rattle.law_licences.specs.Licences.{ObeysData}
use Rattle.law_licences.specs.Sealing.{no_keys}
use Rattle.law_licences.specs.Views.{at_rest}
use Rattle.local_commands.specs.Keeping.{changes_among, kept_after_all, trail_of}
use Rattle.local_commands.specs.declared.act.Act.{Act}
use Rattle.local_commands.specs.Sparing.{SparesClock, SparesInput, SparesRandom}
use Rattle.local_commands.specs.declared.command.LocalCommand.{LocalCommand}
use Rattle.local_store.specs.Changing.{after_all}
use Rattle.keeper.specs.Keepers.{KeeperNow, Kept}
use Rattle.key_commands.specs.declared.key_command.KeyCommand.{KeyCommand}
use Rattle.local_store.specs.declared.change.Change.{Change}
use Rattle.local_store.specs.declared.tables.Tables.{Tables}
use Rattle.jop_cli.specs.Causes.{IsExplained, NothingHinders}
use Rattle.jop_cli.specs.Commands.{ComesTo, Uses, used}
use Rattle.jop_cli.specs.Commands.Sessions.{IsClientOf, IsUncalled, NamedSession, lock_named, went_well}
use Rattle.session_opening.specs.Headway.{headway_of}
use Rattle.session_opening.specs.Verdict.{HeedsVerdict, last_calls, verdict_of}
use Rattle.sync_run.specs.Leases.{KeepsLease}
use Rattle.sync_run.specs.Ordering.{HeedsUpgradeVerdict}
use Rattle.sync_session.specs.Ordering.{HeedsKey}
use Rattle.target_upgrade.specs.Verdict.{upgrade_verdict_of}
use Rattle.jop_cli.specs.Commands.Tidy.{HasTidyStatus, IsTidyAnswer}
use Rattle.jop_cli.specs.Worlds.{EmitsTo}
use Rattle.jop_words.specs.declared.verb.Verb.{Verb}
use Rattle.jop_words.specs.declared.verb.Verb.TheVariants as verbs

-- ---- what is done

-- nothing is written down yet
pub record IsFreshOutside (o : OutsideNow) : Type 0 where
  pub unwritten : o.line.trail ≡ []
  pub unchanged : o.made ≡ []

-- a command came to something, with nothing printed, and then that was printed
pub record Obeys (verb : Verb) (before : OutsideNow) (status : Status) (after : OutsideNow)
    : Type 0 where
  pub outcome : Outcome
  pub mid : OutsideNow
  pub comes : ComesTo verb before outcome mid
  pub quiet : mid.out ≡ before.out
  pub emits : EmitsTo outcome mid status after

-- Words that mean nothing do nothing; those of a command are obeyed, unless there is no memory to
-- read them.
abbrev pub AnswersWords : Option Verb → OutsideNow → Status → OutsideNow → Type 0
AnswersWords None before status after =
    ((status ≡ statuses.Usage) ⊎ (status ≡ statuses.NoMemory)) × (after ≡ before)
AnswersWords (Some verb) before status after =
    ((status ≡ statuses.NoMemory) × (after ≡ before)) ⊎ Obeys verb before status after

-- ---- what is left alone

-- Without a session no call is made: the trail has the numbers of the changes and nothing else, and
-- the target is as it was.
abbrev pub LeavesTarget : Option NamedSession → TargetNow → List Event → List Change → TargetNow
    → Type 0
LeavesTarget None before trail made after = (trail ≡ trail_of 0 made) × (after ≡ before)
LeavesTarget (Some session) before trail made after = Unit {0}

-- tables that aren't used are as they were, and nothing is asked of their keeper
abbrev pub LeavesTables : Bool → KeeperNow → List Change → KeeperNow → Type 0
LeavesTables false before made after = (made ≡ []) × (after ≡ before)
LeavesTables true before made after = Unit {0}

pub record LeavesAlone (uses : Uses) (before after : OutsideNow) : Type 0 where
  pub input : SparesInput uses.input before.input after.input
  pub target : LeavesTarget uses.session before.line.target after.line.trail after.made
      after.line.target
  pub tables : LeavesTables uses.tables before.keeper after.made after.keeper
  pub clock : SparesClock uses.clock before.clock after.clock
  pub random : SparesRandom uses.random before.entropy after.entropy

-- The calls of the trail, and no others, were made on this target; its count has risen if one failed,
-- and stays if none did.
pub record UsesTarget (before : TargetNow) (trail : List Event) (after : TargetNow) : Type 0 where
  pub later : before.faults ≤ after.faults
  pub fault : has_failed trail ≡ true → HasRisen before.faults after.faults
  pub stays : has_failed trail ≡ false → after.faults ≡ before.faults
  pub told : TellsRun before.store trail after.store

-- ---- tables

-- what is kept after a list of changes, the first one first; the bytes of resources stay
abbrev pub with_changes : List Change → Kept → Kept
with_changes made kept = record kept { tables = after_all kept.tables made }

-- the same acts, but the bytes of resources that are saved among them, are the changes that were made
pub record KeepsActs (before : KeeperNow) (made : List Change) (after : KeeperNow) : Type 0 where
  pub acts : List Act
  pub changes : made ≡ changes_among acts
  pub kept : after.kept ≡ option_map (kept_after_all acts) before.kept

-- The tables, if they are told, are those before with the changes that were made, in their order; the
-- bytes of resources are as they were, but of a command that saves some.
abbrev pub KeepsChanges : Bool → KeeperNow → List Change → KeeperNow → Type 0
KeepsChanges false before made after = after.kept ≡ option_map (with_changes made) before.kept
KeepsChanges true before made after = KeepsActs before made after

-- ---- sessions

-- the trail is changes, and then one session of the client, which keeps what a lease promises
pub record RunsSession (session : NamedSession) (keeper : KeeperNow) (trail : List Event)
    (status : Status) : Type 0 where
  pub client : List ℕ
  pub of : IsClientOf session.client keeper client
  pub before : List Event
  pub changes : IsUncalled before
  pub events : List Event
  pub trail_is : trail ≡ before ++ events
  pub keeps : KeepsLease session.kind client (lock_named status) (went_well status) events

-- nothing is called, but in the one session of a command that has one
abbrev pub Sessions : Option NamedSession → KeeperNow → List Event → Status → Type 0
Sessions None keeper trail status = IsUncalled trail
Sessions (Some session) keeper trail status =
    IsUncalled trail ⊎ RunsSession session keeper trail status

-- ---- a refusal that is due

-- how it ends that is to be refused so, unless memory runs out
abbrev pub EndsRefused : Status → Refusal → Type 0
EndsRefused status why = (status ≡ statuses.Refused why) ⊎ (status ≡ statuses.NoMemory)

-- Once the calls of a sync say that the target is of another version, or that its info can't be
-- read, nothing more is called but about locks, and that is how it ends. So it is with an upgrade and
-- a newer version. The other sessions ask a target nothing.
abbrev pub AnswersVerdict : Option Verb → Status → List Event → Type 0
AnswersVerdict (Some (verbs.Sync target)) status trail =
    HeedsVerdict (EndsRefused status) (verdict_of (last_calls trail))
AnswersVerdict (Some (verbs.Upgrade target)) status trail =
    HeedsUpgradeVerdict (EndsRefused status) (upgrade_verdict_of trail)
AnswersVerdict verb status trail = Unit {0}

-- Once the calls of a sync say that the target has the merge of its info and the client's own, while
-- something waits in these tables that is to be sealed by that, nothing more is called but about locks, and
-- `NoKey` is how it ends; or the keeper failed where the client's own info was to become the merge.
abbrev pub AnswersKey : Option Verb → Tables → Status → List Event → Type 0
AnswersKey (Some (verbs.Sync target)) t status trail =
    HeedsKey (EndsRefused status) (status ≡ statuses.KeeperFault) t
    (headway_of t.info (last_calls trail))
AnswersKey verb t status trail = Unit {0}

-- Once the root's listing shows a sync no item, while some of these tables, as they are then, have a base,
-- nothing more is done but about locks, and `FailSafe` is how it ends.
abbrev pub AnswersEmptied : Option Verb → Tables → Status → List Event → List Change → Type 0
AnswersEmptied (Some (verbs.Sync target)) t status trail made =
    HeedsEmptied (EndsRefused status) (at_rest no_keys t) (deeds_of trail made)
AnswersEmptied verb t status trail made = Unit {0}

-- ---- an input that tells its bytes

-- an input of `tidy` that tells these bytes has this answer
abbrev pub TidiesTold : List ℕ → Status → Type 0
TidiesTold bytes status = (result : _) × HasTidyStatus result status × IsTidyAnswer bytes result

-- ---- what is refused before anything is saved

-- a refusal that may come when something has been saved: the keeper's, out of memory, and the output's
abbrev pub may_be_late : Status → Bool
may_be_late statuses.Ok = true
may_be_late statuses.KeeperFault = true
may_be_late statuses.SinkFault = true
may_be_late statuses.NoMemory = true
may_be_late status = false

-- nothing was saved, and nothing is written down
pub record IsFreshAndUnsaved (before after : OutsideNow) : Type 0 where
  pub same : after.keeper ≡ before.keeper
  pub fresh : IsFreshOutside after

-- ---- what is printed

-- the command came to this text, which was printed then
abbrev pub ComesToText : Option Verb → OutsideNow → List ℕ → OutsideNow → Type 0
ComesToText verb before text after =
    (v : Verb) × (verb ≡ Some v) × (mid : OutsideNow) × ComesTo v before (Ok text) mid
    × (after ≡ record mid { out = after.out })

-- When all went well the command's text stands on standard output, and nothing more; after a failed
-- write a prefix of it; else nothing.
abbrev pub Prints : Option Verb → OutsideNow → Status → OutsideNow → Type 0
Prints verb before statuses.Ok after =
    (text : List ℕ) × ComesToText verb before text after × WasWritten before.out text after.out
Prints verb before statuses.SinkFault after =
    (text : List ℕ) × ComesToText verb before text after × WasCut before.out text after.out
Prints verb before status after = after.out ≡ before.out

-- ---- licences

-- each call and each change has its licence, from the tables of its beginning on, if these are told
abbrev pub HasLicences : OutsideNow → OutsideNow → Type 0
HasLicences before after =
    (k : Kept) → before.keeper.kept ≡ Some k →
    ObeysData (at_rest no_keys k.tables) (deeds_of after.line.trail after.made)

-- each call and each change has its licence, from these tables on; and no saved note is lost, whatever
-- history the run is the client's last part of
pub record KeepsLicences (t : Tables) (after : OutsideNow) : Type 0 where
  pub obeys : ObeysData (at_rest no_keys t) (deeds_of after.line.trail after.made)
  pub kept : (client : List ℕ) → KeepsNotes client t after.line.trail after.made

-- ---- the whole

-- what was done, and what it used
pub record Acts (verb : Option Verb) (before : OutsideNow) (status : Status) (after : OutsideNow)
    : Type 0 where
  pub answers : AnswersWords verb before status after
  pub explained : IsExplained verb before status after
  pub sessions : Sessions (used verb).session after.keeper after.line.trail status
  pub tables : KeepsChanges (used verb).bytes before.keeper after.made after.keeper
  pub target : UsesTarget before.line.target after.line.trail after.line.target
  pub alone : LeavesAlone (used verb) before after
  pub licensed : HasLicences before after

-- What a run is promised to do, whatever the outside answers.
pub record RunsAsPromised (verb : Option Verb) (before : OutsideNow) (status : Status)
    (after : OutsideNow) : Type 0 where
  -- what was done
  pub answers : AnswersWords verb before status after
  -- the cause of its end
  pub explained : IsExplained verb before status after
  -- if nothing hinders it, it went well, or memory ran out
  pub complete : NothingHinders verb before after →
      (status ≡ statuses.Ok) ⊎ (status ≡ statuses.NoMemory)
  -- a sync or an upgrade ends by the refusal that its calls call for, and calls nothing behind them
  pub due : AnswersVerdict verb status after.line.trail
  -- so does a sync that wants a key, if the tables at entry are told
  pub key : (k : Kept) → before.keeper.kept ≡ Some k →
      AnswersKey verb k.tables status after.line.trail
  -- and one to which the target looks emptied
  pub emptied : (k : Kept) → before.keeper.kept ≡ Some k →
      AnswersEmptied verb k.tables status after.line.trail after.made
  -- `tidy` of an input that tells its bytes
  pub exact : (bytes : List ℕ) → verb ≡ Some verbs.Tidy → before.input.left ≡ Some bytes →
      TidiesTold bytes status
  -- a command on the tables that is refused before it saves anything leaves them and the bytes of
  -- resources as they were
  pub unsaved : (command : LocalCommand) → verb ≡ Some (verbs.Local command) →
      may_be_late status ≡ false → IsFreshAndUnsaved before after
  -- so does one on master keys
  pub keys_unsaved : (command : KeyCommand) → verb ≡ Some (verbs.Keys command) →
      may_be_late status ≡ false → IsFreshAndUnsaved before after
  -- its session keeps its lease, in every history of all clients
  pub sessions : Sessions (used verb).session after.keeper after.line.trail status
  -- the tables at exit are those at entry with the changes that were made
  pub tables : KeepsChanges (used verb).bytes before.keeper after.made after.keeper
  -- if the tables at entry are told, each call and each change has its licence from them on, and no
  -- saved note is lost
  pub notes : (k : Kept) → before.keeper.kept ≡ Some k → KeepsLicences k.tables after
  -- what is used of the outside, and what is left alone
  pub target : UsesTarget before.line.target after.line.trail after.line.target
  pub alone : LeavesAlone (used verb) before after
  -- what is printed
  pub out : Prints verb before status after
