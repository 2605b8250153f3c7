-- What a session has read of the version of its target, by the replies to its own calls alone.
use Rattle.std.specs.Prelude.{ℕ, List, [], ◌∷◌, Bool, true, false, Option, Some, None, if◌then◌else◌}
use Rattle.jop_base.specs.declared.path.Path.TheVariants.{Info as InfoFile, OldVersion}
use Rattle.jop_target.specs.declared.call.Call.{Call}
use Rattle.jop_target.specs.declared.call.Call.TheVariants.{Get}
use Rattle.jop_target.specs.declared.event.Event.{Event}
use Rattle.jop_target.specs.declared.event.Event.TheVariants.{Began, Called}
use Rattle.jop_target.specs.declared.reply.Reply.{Reply}
use Rattle.jop_target.specs.declared.reply.Reply.TheVariants.{Got, Absent, TooLarge}
use Rattle.sync_info.specs.Read.{info_in}
use Rattle.sync_info.specs.declared.info.Info.{Info}

-- Whether the session was answered that there is no `info.json`, and each version that it has read,
-- the last one first.
pub record Learnt : Type 0 where
  pub no_info : Bool
  pub versions : List ℕ

abbrev pub nothing_learnt : Learnt
nothing_learnt = record { no_info = false; versions = [] }

-- ---- one reply

-- with the version of an info that was got
abbrev pub with_info : Option Info → List ℕ → List ℕ
with_info None versions = versions
with_info (Some info) versions = info.version ∷ versions

-- `info.json` tells the version if it can be read
abbrev pub learnt_of_info : Learnt → Reply → Learnt
learnt_of_info l (Got now content) =
    record { no_info = l.no_info; versions = with_info (info_in content) l.versions }
learnt_of_info l (Absent now) = record { no_info = true; versions = l.versions }
learnt_of_info l reply = l

-- without one, `version.txt` in any form tells version 1, and no such file version 0
abbrev pub with_old : Reply → List ℕ → List ℕ
with_old (Got now content) versions = 1 ∷ versions
with_old (TooLarge len) versions = 1 ∷ versions
with_old (Absent now) versions = 0 ∷ versions
with_old reply versions = versions

abbrev pub learnt_of_old : Learnt → Reply → Learnt
learnt_of_old l reply = record {
  no_info = l.no_info;
  versions = if l.no_info then with_old reply l.versions else l.versions;
}

abbrev pub learnt_by : Learnt → Call → Reply → Learnt
learnt_by l (Get InfoFile) reply = learnt_of_info l reply
learnt_by l (Get OldVersion) reply = learnt_of_old l reply
learnt_by l call reply = l

-- ---- a session

abbrev pub learnt_after : Learnt → Event → Learnt
learnt_after l Began = nothing_learnt
learnt_after l (Called call reply) = learnt_by l call reply
learnt_after l event = l

unfoldable pub learnt_from : Learnt → List Event → Learnt
learnt_from l [] = l
learnt_from l (e ∷ es) = learnt_from (learnt_after l e) es

-- what the last session of a trail has read
abbrev pub learnt_of : List Event → Learnt
learnt_of trail = learnt_from nothing_learnt trail
