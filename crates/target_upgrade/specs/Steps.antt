-- The steps of an upgrade: which call comes next, by what was read and answered so far.
use Rattle.std.specs.Prelude.{ℕ, zero, suc, Bool, true, false, List, [], ◌∷◌, codes, Option, Some, None}
use Rattle.jop_base.specs.declared.dir.Dir.TheVariants.{Root, Resources, OldSync, Locks, Temp}
use Rattle.jop_base.specs.declared.path.Path.{Path}
use Rattle.jop_base.specs.declared.path.Path.TheVariants.{Info as InfoFile, OldVersion, Item}
use Rattle.jop_target.specs.declared.call.Call.{Call}
use Rattle.jop_target.specs.declared.call.Call.TheVariants.{List as ListDir, Get, Put, MakeDir}
use Rattle.jop_target.specs.declared.reply.Entry.{Entry}
use Rattle.jop_target.specs.declared.reply.Reply.{Reply}
use Rattle.jop_target.specs.declared.reply.Reply.TheVariants.{Listed, Got, Absent, Done, Failed, TooLarge}
use Rattle.sync_info.specs.Info.{new_info}
use Rattle.sync_info.specs.Json.{info_text}
use Rattle.sync_info.specs.Read.{info_in}
use Rattle.sync_info.specs.declared.info.Info.{Info}
use Rattle.sync_info.specs.declared.key_record.KeyRecord.{KeyRecord}
use Rattle.target_upgrade.specs.Keys.{key_of, with_key}
use Rattle.target_upgrade.specs.declared.step.Step.{Step}
use Rattle.target_upgrade.specs.declared.step.Step.TheVariants.{MakesResources, MakesOldSync, PutsOne, MakesLocks, MakesTemp, PutsTwo, PutsInfo, ListsRoot}

-- the version of this program: an upgrade brings a target to it
abbrev pub SUPPORTED : ℕ
SUPPORTED = 3

-- Where an upgrade stands. It goes on with the target's info as it is so far.
pub data UpgradeStage : Type 0 where
  -- `info.json` is to be read
  Reads : UpgradeStage
  -- there is none, and `.sync/version.txt` is to be read
  ReadsOld : UpgradeStage
  At : (step : Step) (info : Info) → UpgradeStage
  -- the files of these items are still to be got
  Gets : (ids : List (List ℕ)) (info : Info) → UpgradeStage
  -- the target has the version to which it is brought
  Upgraded : UpgradeStage
  -- nothing more may be called
  Stuck : UpgradeStage

-- the info with another version
abbrev pub at_version : ℕ → Info → Info
at_version version info = record info { version = version }

-- ---- the next call

abbrev pub step_call : Step → Info → Call
step_call MakesResources info = MakeDir Resources
step_call MakesOldSync info = MakeDir OldSync
step_call PutsOne info = Put OldVersion (codes "1")
step_call MakesLocks info = MakeDir Locks
step_call MakesTemp info = MakeDir Temp
step_call PutsTwo info = Put OldVersion (codes "2")
step_call PutsInfo info = Put InfoFile (info_text (at_version 2 info))
step_call ListsRoot info = ListDir Root

-- The last call of all puts the info with the keys that were got.
abbrev pub awaited : UpgradeStage → Option Call
awaited Reads = Some (Get InfoFile)
awaited ReadsOld = Some (Get OldVersion)
awaited (At step info) = Some (step_call step info)
awaited (Gets (id ∷ ids) info) = Some (Get (Item id))
awaited (Gets [] info) = Some (Put InfoFile (info_text info))
awaited Upgraded = None
awaited Stuck = None

-- ---- where the steps begin

-- from a version; beyond the one that is supported nothing is done
abbrev pub starts_from : ℕ → Info → UpgradeStage
starts_from zero info = At MakesResources info
starts_from (suc zero) info = At MakesLocks info
starts_from (suc (suc zero)) info = At ListsRoot info
starts_from (suc (suc (suc zero))) info = Upgraded
starts_from (suc (suc (suc (suc n)))) info = Stuck

abbrev pub starts : Info → UpgradeStage
starts info = starts_from info.version info

abbrev pub starts_with : Option Info → UpgradeStage
starts_with None = Stuck
starts_with (Some info) = starts info

-- ---- what comes behind a reply

-- what was read of `info.json`
abbrev pub after_info : Reply → UpgradeStage
after_info (Got now content) = starts_with (info_in content)
after_info (Absent now) = ReadsOld
after_info reply = Stuck

-- without one a `version.txt` in any form means version 1
abbrev pub after_old : Reply → UpgradeStage
after_old (Absent now) = starts (new_info 0)
after_old (Got now content) = starts (new_info 1)
after_old (TooLarge len) = starts (new_info 1)
after_old reply = Stuck

abbrev pub next_step : Step → Step
next_step MakesResources = MakesOldSync
next_step MakesOldSync = PutsOne
next_step PutsOne = MakesLocks
next_step MakesLocks = MakesTemp
next_step MakesTemp = PutsTwo
next_step PutsTwo = PutsInfo
next_step PutsInfo = ListsRoot
next_step ListsRoot = ListsRoot

abbrev pub is_last : Step → Bool
is_last ListsRoot = true
is_last step = false

abbrev pub with_item : Path → List (List ℕ) → List (List ℕ)
with_item (Item id) ids = id ∷ ids
with_item path ids = ids

-- the items of a listing, in its order
abbrev pub items_in : List Entry → List (List ℕ)
items_in [] = []
items_in (e ∷ es) = with_item e.path (items_in es)

abbrev pub after_step : Step → Info → Reply → UpgradeStage
after_step ListsRoot info (Listed listing) =
    Gets (items_in listing.entries) (at_version 3 info)
after_step step info (Done now) = At (next_step step) info
after_step step info reply = Stuck

-- the key that an item file gives that was got
abbrev pub key_in : List ℕ → Reply → Option KeyRecord
key_in id (Got now content) = key_of id content
key_in id reply = None

abbrev pub after_get : List ℕ → List (List ℕ) → Info → Reply → UpgradeStage
after_get id ids info Failed = Stuck
after_get id ids info reply = Gets ids (with_key (key_in id reply) info)

abbrev pub after_last : Reply → UpgradeStage
after_last (Done now) = Upgraded
after_last reply = Stuck

abbrev pub stage_after_reply : UpgradeStage → Reply → UpgradeStage
stage_after_reply Reads reply = after_info reply
stage_after_reply ReadsOld reply = after_old reply
stage_after_reply (At step info) reply = after_step step info reply
stage_after_reply (Gets (id ∷ ids) info) reply = after_get id ids info reply
stage_after_reply (Gets [] info) reply = after_last reply
stage_after_reply Upgraded reply = Stuck
stage_after_reply Stuck reply = Stuck
