-- The verdict on a target that is to be upgraded: what the calls of a session, but those on locks, say
-- of its version, and whether more may be called.
use Rattle.std.specs.Prelude.{ℕ, ◌≡◌, ◌⊎◌, List, [], ◌∷◌, Bool, true, false, nat_lt, if◌then◌else◌, Option, Some, None, Result, Ok, Err}
use Rattle.jop_base.specs.declared.dir.Dir.{Dir}
use Rattle.jop_base.specs.declared.dir.Dir.TheVariants.{Locks}
use Rattle.jop_base.specs.declared.path.Path.{Path}
use Rattle.jop_base.specs.declared.path.Path.TheVariants.{Info as InfoFile, Lock as LockFile}
use Rattle.jop_target.specs.declared.call.Call.{Call}
use Rattle.jop_target.specs.declared.call.Call.TheVariants.{List as ListDir, Get, Put, Delete, MakeDir}
use Rattle.jop_target.specs.declared.event.Event.{Event}
use Rattle.jop_target.specs.declared.event.Event.TheVariants.{Began, Sent, Called, Made, Ended}
use Rattle.jop_target.specs.declared.reply.Reply.{Reply}
use Rattle.jop_target.specs.declared.reply.Reply.TheVariants.{Got, Absent, Failed, TooLarge}
use Rattle.jop_target.specs.Trail.{EndsWith}
use Rattle.lease.specs.declared.error.LeaseErr.{LeaseErr}
use Rattle.lease.specs.declared.error.LeaseErr.TheVariants.{NoMemory}
use Rattle.sync_info.specs.Read.{info_in}
use Rattle.sync_info.specs.declared.info.Info.{Info}
use Rattle.target_upgrade.specs.Steps.{SUPPORTED}
use Rattle.target_upgrade.specs.declared.reading.Found.{Found}
use Rattle.target_upgrade.specs.declared.reading.ReadErr.{ReadErr}
use Rattle.target_upgrade.specs.declared.reading.ReadErr.TheVariants.{BadInfo, Lease as LeaseStops}

pub data UpgradeVerdict : Type 0 where
  -- `info.json` is to be got first
  AwaitsInfo : UpgradeVerdict
  -- the target has the supported version, or can be brought to it
  CanUpgrade : UpgradeVerdict
  -- it has this version, which is newer, and nothing more is to be called
  IsNewer : (version : ℕ) → UpgradeVerdict
  -- its info is too large or can't be read, and nothing more is to be called
  IsUnreadable : UpgradeVerdict
  -- the get had no answer, and nothing more is to be called
  Unanswered : UpgradeVerdict
  -- something was called that wasn't to be called
  Disordered : UpgradeVerdict

-- ---- by the reply to the get of `info.json`

abbrev pub judged_version : ℕ → UpgradeVerdict
judged_version version = if nat_lt SUPPORTED version then IsNewer version else CanUpgrade

abbrev pub judged_info : Option Info → UpgradeVerdict
judged_info None = IsUnreadable
judged_info (Some info) = judged_version info.version

-- a target without one is older
abbrev pub judged_reply : Option Reply → UpgradeVerdict
judged_reply (Some (Got now content)) = judged_info (info_in content)
judged_reply (Some (TooLarge len)) = IsUnreadable
judged_reply (Some (Absent now)) = CanUpgrade
judged_reply reply = Unanswered

-- ---- call by call

abbrev pub is_folder_of_locks : Dir → Bool
is_folder_of_locks Locks = true
is_folder_of_locks dir = false

abbrev pub is_file_of_lock : Path → Bool
is_file_of_lock (LockFile name) = true
is_file_of_lock path = false

-- a call on locks: a lease makes these by itself
abbrev pub is_on_locks : Call → Bool
is_on_locks (ListDir dir) = is_folder_of_locks dir
is_on_locks (MakeDir dir) = is_folder_of_locks dir
is_on_locks (Get path) = is_file_of_lock path
is_on_locks (Put path content) = is_file_of_lock path
is_on_locks (Delete path) = is_file_of_lock path
is_on_locks call = false

abbrev pub judged_first : Call → Option Reply → UpgradeVerdict
judged_first (Get InfoFile) reply = judged_reply reply
judged_first call reply = Disordered

abbrev pub judged_by : UpgradeVerdict → Call → Option Reply → UpgradeVerdict
judged_by AwaitsInfo call reply = judged_first call reply
judged_by CanUpgrade call reply = CanUpgrade
judged_by verdict call reply = Disordered

-- calls on locks say nothing of the version
abbrev pub judged : UpgradeVerdict → Call → Option Reply → UpgradeVerdict
judged verdict call reply = if is_on_locks call then verdict else judged_by verdict call reply

-- ---- in a trail

abbrev pub upgrade_verdict_after : UpgradeVerdict → Event → UpgradeVerdict
upgrade_verdict_after verdict Began = AwaitsInfo
upgrade_verdict_after verdict (Sent call) = judged verdict call None
upgrade_verdict_after verdict (Called call reply) = judged verdict call (Some reply)
upgrade_verdict_after verdict (Made number) = verdict
upgrade_verdict_after verdict Ended = verdict

unfoldable pub upgrade_verdict_from : UpgradeVerdict → List Event → UpgradeVerdict
upgrade_verdict_from verdict [] = verdict
upgrade_verdict_from verdict (e ∷ es) =
    upgrade_verdict_from (upgrade_verdict_after verdict e) es

-- what the calls of a trail's last session have said so far, also once it has ended
abbrev pub upgrade_verdict_of : List Event → UpgradeVerdict
upgrade_verdict_of trail = upgrade_verdict_from AwaitsInfo trail

-- ---- what is owed to it

abbrev pub is_in_order : UpgradeVerdict → Bool
is_in_order Disordered = false
is_in_order verdict = true

abbrev pub is_refusing : UpgradeVerdict → Bool
is_refusing (IsNewer version) = true
is_refusing IsUnreadable = true
is_refusing verdict = false

-- Nothing was called that wasn't to be called; and where a refusal is due, memory ran out.
pub record StopsInOrder (e : LeaseErr) (verdict : UpgradeVerdict) : Type 0 where
  pub ordered : is_in_order verdict ≡ true
  pub starved : is_refusing verdict ≡ true → e ≡ NoMemory

-- what was found of a target is what the calls say of it
abbrev pub FindsInOrder : Result Found ReadErr → UpgradeVerdict → Type 0
FindsInOrder (Ok found) verdict = verdict ≡ judged_version found.version
FindsInOrder (Err BadInfo) verdict = verdict ≡ IsUnreadable
FindsInOrder (Err (LeaseStops e)) verdict = StopsInOrder e verdict

-- The call was made once, and was answered so. If it gave nothing, it wasn't made, or had no answer but
-- `Failed`. Else only calls on locks were made.
abbrev pub IsJudgedOnce : Call → List Event → Result (Unit {0}) LeaseErr → List Event → Type 0
IsJudgedOnce call old (Ok done) new =
    (reply : Reply) × EndsWith new call reply
    × (upgrade_verdict_of new ≡ judged (upgrade_verdict_of old) call (Some reply))
IsJudgedOnce call old (Err e) new =
    let before = upgrade_verdict_of old in
    let after = upgrade_verdict_of new in
    (after ≡ before)
    ⊎ ((after ≡ judged before call None) ⊎ (after ≡ judged before call (Some Failed)))
