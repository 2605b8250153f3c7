-- How far the opening of a session has come, by its calls but those about locks.
use Rattle.std.specs.Prelude.{◌≡◌, ◌⊎◌, List, [], ◌∷◌, bytes_eq, nat_eq, if◌then◌else◌, Option, Some, None, Result, Ok, Err}
use Rattle.conflicts.specs.declared.error.StepErr.{StepErr}
use Rattle.conflicts.specs.declared.error.StepErr.TheVariants.{KeeperFault, NoMemory}
use Rattle.jop_base.specs.declared.path.Path.TheVariants.{Info as InfoFile}
use Rattle.jop_target.specs.declared.call.Call.{Call}
use Rattle.jop_target.specs.declared.call.Call.TheVariants.{Get, Put}
use Rattle.jop_target.specs.declared.reply.Reply.{Reply}
use Rattle.jop_target.specs.declared.reply.Reply.TheVariants.{Got, Done}
use Rattle.law_licences.specs.Trails.{session_calls}
use Rattle.law_licences.specs.Views.{Heard}
use Rattle.session.specs.Making.{IsUnkept}
use Rattle.session.specs.Work.{WorkNow}
use Rattle.sync_info.specs.Json.{info_text}
use Rattle.sync_info.specs.Merge.{merged}
use Rattle.sync_info.specs.Read.{info_in}
use Rattle.sync_info.specs.declared.info.Info.{Info}
use Rattle.target_upgrade.specs.Steps.{SUPPORTED}

pub data Headway : Type 0 where
  -- `info.json` is to be got
  Unread : Headway
  -- the target's info was got, and this is the merge with the client's own; nothing was called since
  JustGot : (info remote : Info) → Headway
  -- the merge was put; nothing was called since
  JustPut : (info : Info) → Headway
  -- more was called behind the get, which isn't known to have put the merge; or behind the put
  BeyondGet : (info remote : Info) → Headway
  BeyondPut : (info : Info) → Headway
  -- no info of the supported version was got
  Halted : Headway

-- ---- call by call

abbrev pub headway_by_version : Info → Info → Headway
headway_by_version own remote =
    if nat_eq remote.version SUPPORTED then JustGot (merged own remote) remote else Halted

abbrev pub headway_by_told : Info → Option Info → Headway
headway_by_told own None = Halted
headway_by_told own (Some remote) = headway_by_version own remote

abbrev pub headway_by_get : Info → Call → Option Reply → Headway
headway_by_get own (Get InfoFile) (Some (Got now content)) = headway_by_told own (info_in content)
headway_by_get own call reply = Halted

-- the merge is put, or something else is called
abbrev pub headway_by_put : Info → Info → Call → Option Reply → Headway
headway_by_put info remote (Put InfoFile content) (Some (Done now)) =
    if bytes_eq content (info_text info) then JustPut info else BeyondGet info remote
headway_by_put info remote call reply = BeyondGet info remote

abbrev pub headway_after : Info → Headway → Heard → Headway
headway_after own Unread h = headway_by_get own h.call h.reply
headway_after own (JustGot info remote) h = headway_by_put info remote h.call h.reply
headway_after own (JustPut info) h = BeyondPut info
headway_after own headway h = headway

-- that of these calls, the last one first, of a client whose own info was this
unfoldable pub headway_of : Info → List Heard → Headway
headway_of own [] = Unread
headway_of own (h ∷ calls) = headway_after own (headway_of own calls) h

abbrev pub headway_in : Info → WorkNow → Headway
headway_in own w = headway_of own (session_calls w.site.line.trail)

-- ---- what it says

-- the target has this info, which is the merge, and nothing was called since
abbrev pub IsOpened : Info → Headway → Type 0
IsOpened info (JustGot merge remote) = (info ≡ merge) × (merge ≡ remote)
IsOpened info (JustPut merge) = info ≡ merge
IsOpened info headway = ⊥

-- or more was called since
abbrev pub IsBeyond : Info → Headway → Type 0
IsBeyond info (BeyondGet merge remote) = (info ≡ merge) × (merge ≡ remote)
IsBeyond info (BeyondPut merge) = info ≡ merge
IsBeyond info headway = ⊥

-- A part of an opening that gave nothing has called nothing behind it; if the target has the merge,
-- then for want of memory, or since the keeper failed where the client's own info was to become it.
pub record StopsOpening (own : Info) (e : StepErr) (headway : Headway) : Type 0 where
  pub short : (info : Info) → ¬ IsBeyond info headway
  pub why : (info : Info) → IsOpened info headway
      → (e ≡ NoMemory) ⊎ ((e ≡ KeeperFault) × ¬ (info ≡ own))

-- the client's own info didn't become this one, which it isn't
pub record IsSetInVain (info own : Info) (e : StepErr) : Type 0 where
  pub unkept : IsUnkept e
  pub other : ¬ (info ≡ own)

-- the info was got, or that stopped
abbrev pub GetsSo : Info → Result Info StepErr → Headway → Type 0
GetsSo own (Ok remote) headway = headway ≡ JustGot (merged own remote) remote
GetsSo own (Err e) headway = StopsOpening own e headway

-- the target has this info, or that stopped
abbrev pub OpensSo : Info → Info → Result (Unit {0}) StepErr → Headway → Type 0
OpensSo own info (Ok done) headway = IsOpened info headway
OpensSo own info (Err e) headway = StopsOpening own e headway
