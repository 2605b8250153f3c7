-- The verdict on a target: what the calls of a session, but those about locks, say of its version, and
-- what is to be called next.
use Rattle.std.specs.Prelude.{ℕ, ◌≡◌, ◌⊎◌, List, [], ◌∷◌, Bool, true, false, nat_eq, nat_lt, if◌then◌else◌, Option, Some, None, Result, Ok, Err}
use Rattle.conflicts.specs.declared.error.StepErr.{StepErr}
use Rattle.conflicts.specs.declared.error.StepErr.TheVariants.{NoMemory, Refused}
use Rattle.conflicts.specs.declared.refusal.Refusal.{Refusal}
use Rattle.conflicts.specs.declared.refusal.Refusal.TheVariants.{TargetOlder, TargetNewer, BadInfo}
use Rattle.jop_base.specs.declared.path.Path.TheVariants.{Info as InfoFile, OldVersion}
use Rattle.jop_target.specs.declared.call.Call.{Call}
use Rattle.jop_target.specs.declared.call.Call.TheVariants.{Get}
use Rattle.jop_target.specs.declared.event.Event.{Event}
use Rattle.jop_target.specs.declared.event.Event.TheVariants.{Ended}
use Rattle.jop_target.specs.declared.reply.Reply.{Reply}
use Rattle.jop_target.specs.declared.reply.Reply.TheVariants.{Got, Absent, TooLarge}
use Rattle.law_licences.specs.Trails.{calls_after, session_calls}
use Rattle.law_licences.specs.Views.{Heard}
use Rattle.session.specs.Work.{WorkNow}
use Rattle.sync_info.specs.Read.{info_in}
use Rattle.sync_info.specs.declared.info.Info.{Info}
use Rattle.target_upgrade.specs.Steps.{SUPPORTED}

pub data Verdict : Type 0 where
  -- `info.json` is to be got first
  AwaitsInfo : Verdict
  -- there is none, and the old version's file is to be got
  AwaitsOldFile : Verdict
  -- an info of the supported version was got, and the session may go on
  GoesAhead : Verdict
  -- the session is to be refused so, and nothing more is to be called
  MustRefuse : (why : Refusal) → Verdict
  -- a get had no answer, and nothing more is to be called
  Unanswered : Verdict
  -- something was called that wasn't to be called
  Disordered : Verdict

-- ---- by a reply

abbrev pub by_version : ℕ → Verdict
by_version version =
    if nat_lt version SUPPORTED then MustRefuse (TargetOlder version)
    else (if nat_eq version SUPPORTED then GoesAhead else MustRefuse (TargetNewer version))

abbrev pub by_info : Option Info → Verdict
by_info None = MustRefuse BadInfo
by_info (Some info) = by_version info.version

-- that to the get of `info.json`
abbrev pub by_info_reply : Option Reply → Verdict
by_info_reply (Some (Got now content)) = by_info (info_in content)
by_info_reply (Some (TooLarge len)) = MustRefuse BadInfo
by_info_reply (Some (Absent now)) = AwaitsOldFile
by_info_reply reply = Unanswered

-- that to the get of the old version's file, which in any form means version 1
abbrev pub by_old_reply : Option Reply → Verdict
by_old_reply (Some (Got now content)) = MustRefuse (TargetOlder 1)
by_old_reply (Some (TooLarge len)) = MustRefuse (TargetOlder 1)
by_old_reply (Some (Absent now)) = MustRefuse (TargetOlder 0)
by_old_reply reply = Unanswered

-- ---- call by call

abbrev pub by_first : Call → Option Reply → Verdict
by_first (Get InfoFile) reply = by_info_reply reply
by_first call reply = Disordered

abbrev pub by_second : Call → Option Reply → Verdict
by_second (Get OldVersion) reply = by_old_reply reply
by_second call reply = Disordered

abbrev pub verdict_after : Verdict → Heard → Verdict
verdict_after AwaitsInfo h = by_first h.call h.reply
verdict_after AwaitsOldFile h = by_second h.call h.reply
verdict_after GoesAhead h = GoesAhead
verdict_after verdict h = Disordered

-- that of these calls, the last one first
unfoldable pub verdict_of : List Heard → Verdict
verdict_of [] = AwaitsInfo
verdict_of (h ∷ calls) = verdict_after (verdict_of calls) h

-- ---- in a trail

-- what a session's calls have said so far
abbrev pub verdict_in : WorkNow → Verdict
verdict_in w = verdict_of (session_calls w.site.line.trail)

unfoldable pub last_calls_from : List Heard → List Event → List Heard
last_calls_from calls [] = calls
last_calls_from calls (Ended ∷ es) = last_calls_from calls es
last_calls_from calls (e ∷ es) = last_calls_from (calls_after calls e) es

-- the calls of a trail's last session but those about locks, the last one first, also once it has
-- ended
abbrev pub last_calls : List Event → List Heard
last_calls events = last_calls_from [] events

-- ---- what is owed to it

abbrev pub is_ordered : Verdict → Bool
is_ordered Disordered = false
is_ordered verdict = true

-- Nothing was called that wasn't to be called; and the refusal that is due is given.
pub record HeedsVerdict (Given : Refusal → Type 0) (verdict : Verdict) : Type 0 where
  pub ordered : is_ordered verdict ≡ true
  pub given : (why : Refusal) → verdict ≡ MustRefuse why → Given why

-- A part that goes well leaves a session that may go on. Else the refusal that is due is given, or
-- memory ran out.
abbrev pub EndsInOrder : {R : Type 0} → Result R StepErr → Verdict → Type 0
EndsInOrder (Ok value) verdict = verdict ≡ GoesAhead
EndsInOrder (Err e) verdict = HeedsVerdict (λ why. (e ≡ Refused why) ⊎ (e ≡ NoMemory)) verdict

-- the old version's file told the version that is refused, or had no answer
abbrev pub EndsOldFile : Result ℕ StepErr → Verdict → Type 0
EndsOldFile (Ok version) verdict = verdict ≡ MustRefuse (TargetOlder version)
EndsOldFile (Err e) verdict = (verdict ≡ AwaitsOldFile) ⊎ (verdict ≡ Unanswered)
