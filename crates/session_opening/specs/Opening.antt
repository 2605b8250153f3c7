-- A session reads the info of its target, and makes one of it and the client's own.
use Rattle.std.specs.Prelude.{ℕ, ◌≡◌, ◌⊎◌, ◌<◌, ◌++◌, List, Bool, true, false, Option, Some, None, Result, Ok, Err}
use Rattle.conflicts.specs.declared.error.StepErr.{StepErr}
use Rattle.conflicts.specs.declared.error.StepErr.TheVariants.{NoMemory, Refused}
use Rattle.conflicts.specs.declared.refusal.Refusal.{Refusal}
use Rattle.conflicts.specs.declared.refusal.Refusal.TheVariants.{TargetOlder, TargetNewer, BadInfo}
use Rattle.client.specs.Sites.{SiteNow}
use Rattle.jop_base.specs.declared.path.Path.TheVariants.{Info as InfoFile, OldVersion}
use Rattle.jop_target.specs.declared.call.Call.{Call}
use Rattle.jop_target.specs.declared.call.Call.TheVariants.{Get, Put}
use Rattle.jop_target.specs.declared.event.Event.{Event}
use Rattle.jop_target.specs.declared.reply.Reply.{Reply}
use Rattle.jop_target.specs.declared.reply.Reply.TheVariants.{Got, Absent, Done, TooLarge}
use Rattle.lease.specs.declared.lease.Lease.{Lease}
use Rattle.law_licences.specs.Deeds.{deeds_of}
use Rattle.law_licences.specs.Infos.{info_read}
use Rattle.law_licences.specs.Licences.{MergesInfo}
use Rattle.law_licences.specs.Puts.{has_put}
use Rattle.law_licences.specs.Trails.{session_calls}
use Rattle.law_licences.specs.Views.{Shown}
use Rattle.local_store.specs.declared.change.Change.{Change}
use Rattle.local_store.specs.declared.change.Change.TheVariants.{InfoIs}
use Rattle.session.specs.Doing.{Does, Ends, GivesNothing, RefusesOr}
use Rattle.session.specs.Parts.{Part, Then, Nothing, Hears, Changes}
use Rattle.session.specs.Work.{WorkNow, view_of}
use Rattle.sync_info.specs.Info.{IsInfo}
use Rattle.sync_info.specs.Json.{info_text}
use Rattle.sync_info.specs.Merge.{merged}
use Rattle.sync_info.specs.Read.{info_in}
use Rattle.sync_info.specs.declared.info.Info.{Info}
use Rattle.target_upgrade.specs.Course.{course_of, is_info_at}
use Rattle.target_upgrade.specs.Reading.{GivesBytes, GivesInfo, IsBadReply}
use Rattle.target_upgrade.specs.Steps.{SUPPORTED}

-- an opening gets the info and the old version's file, and puts an info of the supported version
abbrev pub is_opening : Call → Bool
is_opening (Get InfoFile) = true
is_opening (Get OldVersion) = true
is_opening (Put InfoFile content) = is_info_at SUPPORTED content
is_opening call = false

-- its reads are these gets alone
abbrev pub is_reading : Call → Bool
is_reading (Get InfoFile) = true
is_reading (Get OldVersion) = true
is_reading call = false

-- behind its reads it makes such a put alone, and so isn't told another version
abbrev pub is_joining : Call → Bool
is_joining (Put InfoFile content) = is_info_at SUPPORTED content
is_joining call = false

-- ---- what is read

-- the target's info is got, and is this one
abbrev pub ReadsInfo : Info → Part
ReadsInfo info v ds =
    (now : ℕ) × ((content : List ℕ)
    × ((info_in content ≡ Some info) × Hears (Get InfoFile) (Got now content) v ds))

-- it is too large, or is no info
abbrev pub ReadsBadInfo : Part
ReadsBadInfo v ds =
    (reply : Reply) × (IsBadReply reply × Hears (Get InfoFile) reply v ds)

-- the version that the reply to the get of the old version's file tells: 1 if that is there in any form, and else 0
abbrev pub IsOldVersion : ℕ → Reply → Type 0
IsOldVersion version (Got now content) = version ≡ 1
IsOldVersion version (TooLarge len) = version ≡ 1
IsOldVersion version (Absent now) = version ≡ 0
IsOldVersion version reply = ⊥

-- the old version's file is got, and tells this version
abbrev pub ReadsOldFile : ℕ → Part
ReadsOldFile version v ds =
    (reply : Reply) × (IsOldVersion version reply × Hears (Get OldVersion) reply v ds)

-- there is no info, and so the old version's file tells the version
abbrev pub ReadsOld : ℕ → Part
ReadsOld version v ds =
    (now : ℕ) × Then (Hears (Get InfoFile) (Absent now)) (ReadsOldFile version) v ds

-- an info of this version is read
abbrev pub ReadsInfoAt : ℕ → Part
ReadsInfoAt version v ds = (info : Info) × ((info.version ≡ version) × ReadsInfo info v ds)

-- the target is found to have this version
abbrev pub ReadsVersion : ℕ → Part
ReadsVersion version v ds = ReadsInfoAt version v ds ⊎ ReadsOld version v ds

-- ---- what is made of it

-- this is the info that the session read last, and is of the supported version
pub record IsRead (info : Info) (d : SiteNow) : Type 0 where
  pub valid : IsInfo info
  pub version : info.version ≡ SUPPORTED
  pub last : info_read (session_calls d.line.trail) ≡ Some info

-- this info is the merge of the client's own and the one that was read
pub record IsMerge (info remote : Info) (d : SiteNow) : Type 0 where
  pub valid : IsInfo info
  pub read : IsRead remote d
  pub is : info ≡ merged d.tables.info remote

-- the info is put if it isn't the one that was read
abbrev pub PutsInfo : Info → Info → Part
PutsInfo info remote v ds =
    ((info ≡ remote) × Nothing v ds)
    ⊎ ((¬ (info ≡ remote))
    × ((now : ℕ) × Hears (Put InfoFile (info_text info)) (Done now) v ds))

-- it becomes the client's own if it isn't that already
abbrev pub SetsInfo : Info → Part
SetsInfo info v ds =
    ((info ≡ v.tables.info) × Nothing v ds)
    ⊎ ((¬ (info ≡ v.tables.info)) × Changes (InfoIs info) v ds)

-- the one that was read and the client's own become one: on the target first, and then here
abbrev pub Joins : Info → Part
Joins remote v ds =
    let info = merged v.tables.info remote in
    Then (PutsInfo info remote) (SetsInfo info) v ds

-- the info of a target of the supported version is read, and it and the client's own become one
abbrev pub Opens : Part
Opens v ds =
    (remote : Info)
    × ((remote.version ≡ SUPPORTED) × Then (ReadsInfo remote) (Joins remote) v ds)

-- ---- what lasts

-- each put of the info that was made between has its licence, whatever the session was shown
abbrev pub MergesBetween : SiteNow → SiteNow → Type 0
MergesBetween old new =
    (more : List Event) (changes : List Change) (shown : Option Shown)
    → new.line.trail ≡ old.line.trail ++ more → new.made ≡ old.made ++ changes
    → MergesInfo (view_of shown old) (deeds_of more changes)

-- no item's file was put between, as far as the last session's calls tell
abbrev pub PutsNoItem : SiteNow → SiteNow → Type 0
PutsNoItem old new =
    (id : List ℕ)
    → has_put id (session_calls new.line.trail) ≡ has_put id (session_calls old.line.trail)

-- the last session has done under its lease what it may
abbrev pub IsLawful : Lease → SiteNow → Type 0
IsLawful lease d = (course_of lease.client d.line.trail).lawful ≡ true

-- and the version that it was told is the supported one
abbrev pub KnowsVersion : Lease → SiteNow → Type 0
KnowsVersion lease d = (course_of lease.client d.line.trail).told ≡ Some SUPPORTED

-- ---- the answers

-- it was this part of a joining, or gave nothing; and each put of the info had its licence
abbrev pub EndsMerging : Part → WorkNow → Result (Unit {0}) StepErr → WorkNow → Type 0
EndsMerging P old result new =
    Ends P is_joining old result new × MergesBetween old.site new.site

-- what is read of a target for which a session isn't opened
abbrev pub RefusesTarget : Refusal → Part
RefusesTarget (TargetOlder version) v ds = (version < SUPPORTED) × ReadsVersion version v ds
RefusesTarget (TargetNewer version) v ds = (SUPPORTED < version) × ReadsVersion version v ds
RefusesTarget BadInfo v ds = ReadsBadInfo v ds
RefusesTarget why v ds = ⊥

-- each answer, by its cause
abbrev pub OpensOr : WorkNow → Result (Unit {0}) StepErr → WorkNow → Type 0
OpensOr old (Ok done) new = Does Opens is_opening old new
OpensOr old (Err e) new = RefusesOr RefusesTarget is_opening old e new

-- an info of the supported version was read, and the session was told of it
pub record HasRead (info : Info) (old new : WorkNow) : Type 0 where
  pub does : Does (ReadsInfo info) is_reading old new
  pub read : IsRead info new.site
  pub told : KnowsVersion new.lease new.site

-- such an info was read, or none
abbrev pub ReadsOr : WorkNow → Result Info StepErr → WorkNow → Type 0
ReadsOr old (Ok info) new = HasRead info old new
ReadsOr old (Err e) new = RefusesOr RefusesTarget is_reading old e new

-- the old version's file told the version of an old target
abbrev pub ReadsOldOr : WorkNow → Result ℕ StepErr → WorkNow → Type 0
ReadsOldOr old (Ok version) new =
    (version < SUPPORTED) × Does (ReadsOldFile version) is_reading old new
ReadsOldOr old (Err e) new = GivesNothing is_reading old e new

-- what the reply to the get of the info tells: the info, or none if it isn't there; only bytes that were got can want
-- memory
abbrev pub TellsInfo : Reply → Result (Option Info) StepErr → Type 0
TellsInfo reply (Ok None) = (now : ℕ) × (reply ≡ Absent now)
TellsInfo reply (Ok (Some info)) = IsInfo info × GivesInfo info reply
TellsInfo reply (Err (Refused BadInfo)) = IsBadReply reply
TellsInfo reply (Err NoMemory) = GivesBytes reply
TellsInfo reply (Err e) = ⊥

-- an info is taken exactly if its version is the supported one
abbrev pub IsTakenInfo : Info → Result Info StepErr → Type 0
IsTakenInfo info (Ok same) = (same ≡ info) × (info.version ≡ SUPPORTED)
IsTakenInfo info (Err (Refused (TargetOlder version))) =
    (version ≡ info.version) × (version < SUPPORTED)
IsTakenInfo info (Err (Refused (TargetNewer version))) =
    (version ≡ info.version) × (SUPPORTED < version)
IsTakenInfo info (Err e) = ⊥
