-- What reading a target's version gives.
use Rattle.std.specs.Prelude.{ℕ, ◌≡◌, ◌≤◌, List, Option, Some, None, Result, Ok, Err}
use Rattle.jop_base.specs.declared.path.Path.TheVariants.{Info as InfoFile}
use Rattle.jop_target.specs.declared.call.Call.TheVariants.{Get}
use Rattle.jop_target.specs.declared.event.Event.{Event}
use Rattle.jop_target.specs.declared.reply.Reply.{Reply}
use Rattle.jop_target.specs.declared.reply.Reply.TheVariants.{Got, TooLarge}
use Rattle.jop_target.specs.Trail.{LineNow, EndsWith}
use Rattle.lease.specs.Standing.{IsSameBut}
use Rattle.lease.specs.declared.error.LeaseErr.TheVariants.{NoMemory}
use Rattle.lease.specs.declared.lease.Lease.{Lease}
use Rattle.sync_info.specs.Info.{IsInfo}
use Rattle.sync_info.specs.Read.{info_in}
use Rattle.sync_info.specs.declared.info.Info.{Info}
use Rattle.target_upgrade.specs.Answers.{StandsAt, Stops, info_or_new}
use Rattle.target_upgrade.specs.Steps.{ReadsOld, Stuck, after_info, starts}
use Rattle.target_upgrade.specs.declared.reading.Found.{Found}
use Rattle.target_upgrade.specs.declared.reading.ReadErr.{ReadErr}
use Rattle.target_upgrade.specs.declared.reading.ReadErr.TheVariants.{BadInfo, Lease as LeaseStops}

-- an info was got by the trail's last call
pub record IsGotInfo (trail : List Event) (info : Info) : Type 0 where
  pub now : ℕ
  pub content : List ℕ
  pub ends : EndsWith trail (Get InfoFile) (Got now content)
  pub holds : info_in content ≡ Some info

-- the info that was found was got by the trail's last call; without one the version is 1 at most
abbrev pub IsFoundInfo : List Event → ℕ → Option Info → Type 0
IsFoundInfo trail version None = version ≤ 1
IsFoundInfo trail version (Some info) = IsGotInfo trail info

-- the session holds this lease, and an upgrade would begin at the version that was found
pub record IsFoundAt (lease : Lease) (found : Found) (trail : List Event) : Type 0 where
  pub read : IsFoundInfo trail found.version found.info
  pub stands : StandsAt lease trail (starts (info_or_new found.version found.info))
  pub version : (info_or_new found.version found.info).version ≡ found.version
  pub valid : IsInfo (info_or_new found.version found.info)

-- the lease is held still, but for its renewals
pub record HasFound (before after : Lease) (found : Found) (new : LineNow) : Type 0 where
  pub same : IsSameBut before after
  pub at : IsFoundAt after found new.trail

-- the reply to the get of `info.json` says that it is too large or holds no info
abbrev pub IsBadReply : Reply → Type 0
IsBadReply (TooLarge len) = Unit {0}
IsBadReply (Got now content) = info_in content ≡ None
IsBadReply reply = ⊥

-- the reply to the get of `info.json` gives this info
abbrev pub GivesInfo : Info → Reply → Type 0
GivesInfo info (Got now content) = info_in content ≡ Some info
GivesInfo info reply = ⊥

-- the reply to a get gives the bytes of a file
abbrev pub GivesBytes : Reply → Type 0
GivesBytes (Got now content) = Unit {0}
GivesBytes reply = ⊥

-- what the reply to the get of `info.json` tells; only bytes that were got can want memory
abbrev pub ReplyTells : Reply → Result (Option Info) ReadErr → Type 0
ReplyTells reply (Ok None) = after_info reply ≡ ReadsOld
ReplyTells reply (Ok (Some info)) =
    (after_info reply ≡ starts info) × IsInfo info × GivesInfo info reply
ReplyTells reply (Err BadInfo) = (after_info reply ≡ Stuck) × IsBadReply reply
ReplyTells reply (Err (LeaseStops e)) = (e ≡ NoMemory) × GivesBytes reply

-- that was the last call; the session holds its lease still
pub record HasBadInfo (before after : Lease) (new : LineNow) : Type 0 where
  pub same : IsSameBut before after
  pub stands : StandsAt after new.trail Stuck
  pub reply : Reply
  pub ends : EndsWith new.trail (Get InfoFile) reply
  pub cause : IsBadReply reply

-- why no version was read
abbrev pub StopsReading : Lease → Lease → LineNow → LineNow → ReadErr → Type 0
StopsReading before after old new BadInfo = HasBadInfo before after new
StopsReading before after old new (LeaseStops e) = Stops before old new e
