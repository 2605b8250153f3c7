-- What an upgrade came to whose lease is still held.
use Rattle.std.specs.Prelude.{ℕ, ◌≡◌, ◌<◌, List, Result, Ok, Err}
use Rattle.conflicts.specs.declared.refusal.Refusal.{Refusal}
use Rattle.conflicts.specs.declared.refusal.Refusal.TheVariants.{TargetNewer, BadInfo}
use Rattle.jop_base.specs.declared.path.Path.TheVariants.{Info as InfoFile}
use Rattle.jop_target.specs.declared.call.Call.TheVariants.{Get}
use Rattle.jop_target.specs.declared.event.Event.{Event}
use Rattle.jop_target.specs.declared.reply.Reply.{Reply}
use Rattle.jop_target.specs.Trail.{LineNow, EndsWith}
use Rattle.lease.specs.Standing.{IsSameBut}
use Rattle.lease.specs.declared.error.LeaseErr.{LeaseErr}
use Rattle.lease.specs.declared.lease.Lease.{Lease}
use Rattle.sync_info.specs.declared.info.Info.{Info}
use Rattle.target_upgrade.specs.Answers.{StandsAt, Stops}
use Rattle.target_upgrade.specs.Reading.{IsBadReply, IsGotInfo}
use Rattle.target_upgrade.specs.Steps.{SUPPORTED, UpgradeStage, Upgraded as IsUpgraded}
use Rattle.sync_run.specs.declared.outcome.Outcome.{Outcome}
use Rattle.sync_run.specs.declared.outcome.Outcome.TheVariants.{Upgraded, Refused}

-- the last call got an info of this version, which is newer than the supported one
pub record ReadsNewer (trail : List Event) (version : ℕ) : Type 0 where
  pub info : Info
  pub got : IsGotInfo trail info
  pub version_is : info.version ≡ version
  pub newer : SUPPORTED < version

-- the last call got an `info.json` that is too large or holds no info
pub record EndsInBadInfo (trail : List Event) : Type 0 where
  pub reply : Reply
  pub ends : EndsWith trail (Get InfoFile) reply
  pub bad : IsBadReply reply

-- why an upgrade is refused, by what its last call got
abbrev pub RefusesUpgrade : Refusal → List Event → Type 0
RefusesUpgrade (TargetNewer version) trail = ReadsNewer trail version
RefusesUpgrade BadInfo trail = EndsInBadInfo trail
RefusesUpgrade why trail = ⊥

abbrev pub IsToldBy : UpgradeStage → List Event → Outcome → Type 0
IsToldBy stage trail Upgraded = stage ≡ IsUpgraded
IsToldBy stage trail (Refused why) = RefusesUpgrade why trail

-- the session holds its lease, and this is what it came to
pub record StandsFor (lease : Lease) (trail : List Event) (outcome : Outcome) : Type 0 where
  pub stage : UpgradeStage
  pub stands : StandsAt lease trail stage
  pub told : IsToldBy stage trail outcome

pub record HasOutcome (before after : Lease) (trail : List Event) (outcome : Outcome)
    : Type 0 where
  pub same : IsSameBut before after
  pub at : StandsFor after trail outcome

abbrev pub Comes : Lease → Lease → LineNow → LineNow → Result Outcome LeaseErr → Type 0
Comes before after old new (Ok outcome) = HasOutcome before after new.trail outcome
Comes before after old new (Err e) = Stops before old new e
