-- What a session may do under its lease, watched event by event: a synchroniser writes at the
-- version that it was told, and an upgrade makes its steps in their order.
use Rattle.std.specs.Prelude.{ℕ, List, [], ◌∷◌, Bool, true, false, ◌&&◌, ◌||◌, not, nat_eq, bytes_eq, Option, Some, None, option_map, option_and_then, if◌then◌else◌, ◌≡◌}
use Rattle.std.specs.Option.{option_or}
use Rattle.std.specs.Str.{is_utf8}
use Rattle.jop_base.specs.declared.lock_name.LockKind.TheVariants.{Sync, Exclusive}
use Rattle.jop_base.specs.declared.path.Path.{Path}
use Rattle.jop_base.specs.declared.path.Path.TheVariants.{Info as InfoFile, OldVersion, Item}
use Rattle.jop_target.specs.declared.call.Call.{Call}
use Rattle.jop_target.specs.declared.call.Call.TheVariants.{List as ListDir, Get, Put, Delete, MakeDir, PutBlob}
use Rattle.jop_target.specs.declared.event.Event.{Event}
use Rattle.jop_target.specs.declared.event.Event.TheVariants.{Began, Sent, Called, Made, Ended}
use Rattle.jop_target.specs.declared.reply.Reply.{Reply}
use Rattle.jop_target.specs.declared.reply.Reply.TheVariants.{Got}
use Rattle.jop_target.specs.Store.{is_same_dir}
use Rattle.lease.specs.Discipline.{Session, ObeysLocks, session_after, begun, outside}
use Rattle.lease.specs.Idle.{is_work}
use Rattle.lease.specs.Phase.{Phase, Held, role_of}
use Rattle.sync_info.specs.Read.{info_in}
use Rattle.target_upgrade.specs.Steps.{UpgradeStage, Reads, Stuck, awaited, stage_after_reply}

-- ---- a synchroniser

-- whether it is a version at which some client may work
abbrev pub is_known : ℕ → Bool
is_known version = nat_eq version 3

abbrev pub if_known : ℕ → Option ℕ
if_known version = if is_known version then Some version else None

-- the version of the info that a text is, if it is one
abbrev pub version_in_text : List ℕ → Option ℕ
version_in_text content = option_map (λ info. info.version) (info_in content)

-- and that, if some client may work at it
abbrev pub known_in : List ℕ → Option ℕ
known_in content = option_and_then if_known (version_in_text content)

abbrev pub is_version : ℕ → Option ℕ → Bool
is_version version None = false
is_version version (Some found) = nat_eq found version

-- whether a text is an info of this version
abbrev pub is_info_at : ℕ → List ℕ → Bool
is_info_at version content = is_version version (version_in_text content)

-- whether the session was told a version
abbrev pub is_told : Option ℕ → Bool
is_told None = false
is_told (Some version) = true

-- whether a text is an info of the version that it was told
abbrev pub is_as_told : Option ℕ → List ℕ → Bool
is_as_told None content = false
is_as_told (Some version) content = is_info_at version content

-- It writes once `info.json` has told it a version, and leaves the version as it is: `info.json`
-- stays and keeps it, `version.txt` isn't touched, and no folder is made.
abbrev pub keeps_version : Option ℕ → Call → Bool
keeps_version told (Put InfoFile content) = is_as_told told content
keeps_version told (Put OldVersion content) = false
keeps_version told (Put path content) = is_told told
keeps_version told (Delete InfoFile) = false
keeps_version told (Delete OldVersion) = false
keeps_version told (Delete path) = is_told told
keeps_version told (PutBlob id len) = is_told told
keeps_version told (MakeDir dir) = false
keeps_version told call = true

-- The version that it was told by now: of those at which some client may work the one that `info.json`
-- gave last.
abbrev pub told_after : Option ℕ → Call → Reply → Option ℕ
told_after told (Get InfoFile) (Got now content) = option_or (known_in content) told
told_after told call reply = told

-- ---- an upgrade

abbrev pub is_file : Path → Path → Bool
is_file InfoFile InfoFile = true
is_file OldVersion OldVersion = true
is_file (Item id) (Item other) = bytes_eq id other
is_file path other = false

-- whether a call is this one
abbrev pub is_call : Call → Call → Bool
is_call (ListDir dir) (ListDir other) = is_same_dir dir other
is_call (Get path) (Get other) = is_file path other
is_call (Put path content) (Put other bytes) = is_file path other && bytes_eq content bytes
is_call (MakeDir dir) (MakeDir other) = is_same_dir dir other
is_call call other = false

-- what is put is UTF-8, so that it can be read again
abbrev pub puts_text : Call → Bool
puts_text (Put path content) = is_utf8 content
puts_text call = true

abbrev pub is_awaited : Option Call → Call → Bool
is_awaited None call = false
is_awaited (Some next) call = is_call call next && puts_text call

-- ---- the monitor

-- What is seen of the last session of a trail: the lock discipline; the version that a synchroniser
-- was told; where an upgrade stands; and whether all that was done under the lease was allowed.
pub record Course : Type 0 where
  pub lease : Session
  pub told : Option ℕ
  pub stage : UpgradeStage
  pub lawful : Bool

-- a session that begins, whatever stands before it
abbrev pub begun_course : Course
begun_course = record { lease = begun; told = None; stage = Reads; lawful = true }

-- outside every session
abbrev pub outside_course : Course
outside_course = record { lease = outside; told = None; stage = Reads; lawful = true }

-- what may be done under a lease
abbrev pub may_do : Course → Phase → Call → Bool
may_do c (Held Sync stamp) call = keeps_version c.told call
may_do c (Held Exclusive stamp) call = is_awaited (awaited c.stage) call
may_do c phase call = true

abbrev pub told_by : Course → Phase → Call → Reply → Option ℕ
told_by c (Held Sync stamp) call reply = told_after c.told call reply
told_by c phase call reply = c.told

abbrev pub stage_by : Course → Phase → Reply → UpgradeStage
stage_by c (Held Exclusive stamp) reply = stage_after_reply c.stage reply
stage_by c phase reply = c.stage

-- a call whose reply is never heard is the last one
abbrev pub stage_lost : Course → Phase → UpgradeStage
stage_lost c (Held Exclusive stamp) = Stuck
stage_lost c phase = c.stage

-- all that a lease does by itself is allowed
abbrev pub is_allowed : List ℕ → Course → Call → Bool
is_allowed client c call =
    not (is_work c.lease.phase (role_of client call)) || may_do c c.lease.phase call

abbrev pub course_after : List ℕ → Course → Event → Course
course_after client c Began = begun_course
course_after client c (Sent call) = record {
  lease = session_after client c.lease (Sent call);
  told = c.told;
  stage =
      if is_work c.lease.phase (role_of client call) then stage_lost c c.lease.phase else c.stage;
  lawful = c.lawful && is_allowed client c call;
}
course_after client c (Called call reply) = record {
  lease = session_after client c.lease (Called call reply);
  told =
      if is_work c.lease.phase (role_of client call)
      then told_by c c.lease.phase call reply else c.told;
  stage =
      if is_work c.lease.phase (role_of client call)
      then stage_by c c.lease.phase reply else c.stage;
  lawful = c.lawful && is_allowed client c call;
}
course_after client c (Made number) = c
course_after client c Ended = record c { lease = session_after client c.lease Ended }

unfoldable pub course_from : List ℕ → Course → List Event → Course
course_from client c [] = c
course_from client c (e ∷ es) = course_from client (course_after client c e) es

-- the last session of a trail
abbrev pub course_of : List ℕ → List Event → Course
course_of client trail = course_from client outside_course trail

-- ---- whole trails

-- each session has done what is allowed, to its end or to where the next one begins
unfoldable pub allowed_from : List ℕ → Course → List Event → Bool
allowed_from client c [] = c.lawful
allowed_from client c (Began ∷ es) = c.lawful && allowed_from client begun_course es
allowed_from client c (e ∷ es) = allowed_from client (course_after client c e) es

-- under a sync lock each session of the trail writes at the version that it was told, and under an
-- exclusive one it makes the steps of an upgrade
abbrev pub KeepsVersions : List ℕ → List Event → Type 0
KeepsVersions client trail = allowed_from client outside_course trail ≡ true

-- each session of the trail obeys the lock discipline, and does under its lease what is allowed
pub record ObeysLease (client : List ℕ) (trail : List Event) : Type 0 where
  pub locks : ObeysLocks client trail
  pub work : KeepsVersions client trail
