-- What the calls of an upgrade leave, and why they answer as they do.
use Rattle.std.specs.Prelude.{ℕ, ◌≤◌, ◌≡◌, List, Bool, true, false, Option, Some, None, Result, Ok, Err}
use Rattle.jop_base.specs.declared.lock_name.LockKind.TheVariants.{Exclusive}
use Rattle.jop_base.specs.declared.path.Path.TheVariants.{Item, Blob}
use Rattle.jop_target.specs.declared.call.Call.{Call}
use Rattle.jop_target.specs.declared.call.Call.TheVariants.{Put, Delete, PutBlob}
use Rattle.jop_target.specs.declared.event.Event.{Event}
use Rattle.jop_target.specs.declared.event.Event.TheVariants.{Sent, Called}
use Rattle.jop_target.specs.declared.reply.Reply.{Reply}
use Rattle.jop_target.specs.declared.reply.Reply.TheVariants.{Failed}
use Rattle.jop_target.specs.Replies.{IsReplyTo}
use Rattle.jop_target.specs.Trail.{LineNow, EndsWith}
use Rattle.lease.specs.declared.error.LeaseErr.{LeaseErr}
use Rattle.lease.specs.declared.error.LeaseErr.TheVariants.{Busy, Lost, TargetFault, NoMemory}
use Rattle.lease.specs.declared.error.Seen.{Seen}
use Rattle.lease.specs.declared.lease.Lease.{Lease}
use Rattle.lease.specs.Calls.{GoesOn, Fails}
use Rattle.lease.specs.Outcomes.{HasMissed}
use Rattle.lease.specs.Phase.{Renewing}
use Rattle.lease.specs.Standing.{IsHeld, IsSameBut}
use Rattle.lease.specs.Work.{NoneFailed}
use Rattle.sync_info.specs.Info.{IsInfo, new_info}
use Rattle.sync_info.specs.declared.info.Info.{Info}
use Rattle.target_upgrade.specs.Course.{course_of, puts_text}
use Rattle.target_upgrade.specs.Steps.{UpgradeStage, Upgraded, SUPPORTED, awaited, starts, stage_after_reply}

-- ---- where a session stands

-- the trail's last session holds this exclusive lease, has done what is allowed, and stands at this
-- stage of an upgrade
pub record StandsAt (lease : Lease) (trail : List Event) (stage : UpgradeStage) : Type 0 where
  pub exclusive : lease.kind ≡ Exclusive
  pub held : IsHeld lease trail
  pub lawful : (course_of lease.client trail).lawful ≡ true
  pub at : (course_of lease.client trail).stage ≡ stage

-- where the session stands in an upgrade
abbrev pub stage_of : Lease → List Event → UpgradeStage
stage_of lease trail = (course_of lease.client trail).stage

-- this is the session's next call
pub record IsNextCall (lease : Lease) (trail : List Event) (call : Call) : Type 0 where
  pub stands : StandsAt lease trail (stage_of lease trail)
  pub next : awaited (stage_of lease trail) ≡ Some call
  pub text : puts_text call ≡ true

-- whether a call leaves all items and the bytes of all resources as they are
abbrev pub leaves_items : Call → Bool
leaves_items (Put (Item id) content) = false
leaves_items (Delete (Item id)) = false
leaves_items (Delete (Blob id)) = false
leaves_items (PutBlob id len) = false
leaves_items call = true

-- a call, with its reply or without, that leaves all items as they are
abbrev pub IsCall : Event → Type 0
IsCall (Sent call) = leaves_items call ≡ true
IsCall (Called call reply) = leaves_items call ≡ true
IsCall event = ⊥

-- A line has gone on by calls alone; its last session keeps its locks, and does under its lease
-- what is allowed.
pub record WorkGoesOn (client : List ℕ) (old new : LineNow) : Type 0 where
  pub goes : GoesOn IsCall client old new
  pub work : (course_of client new.trail).lawful ≡ true

-- ---- the answers

-- the call was made under the lease, which may have been renewed before, and was heard
pub record HasMade (before after : Lease) (call : Call) (stage : UpgradeStage) (new : LineNow)
    : Type 0 where
  pub same : IsSameBut before after
  pub reply : Reply
  pub ends : EndsWith new.trail call reply
  pub shape : IsReplyTo call reply
  pub heard : ¬ (reply ≡ Failed)
  pub stands : StandsAt after new.trail (stage_after_reply stage reply)

-- the lease is held still, but for its renewals, and the session stands at this stage
pub record HasCome (before after : Lease) (stage : UpgradeStage) (new : LineNow) : Type 0 where
  pub same : IsSameBut before after
  pub stands : StandsAt after new.trail stage

-- an exclusive lease, from whatever stamp it was held, was lost at its renewal
abbrev pub HasLapsed : List ℕ → List Event → Seen → Type 0
HasLapsed client trail seen =
    (stamp : ℕ) × HasMissed Exclusive client (Renewing Exclusive stamp) trail seen

-- Why calls of an upgrade gave nothing. Out of memory none of them was answered `Failed`.
abbrev pub Stops : Lease → LineNow → LineNow → LeaseErr → Type 0
Stops lease old new (Lost seen) = HasLapsed lease.client new.trail seen
Stops lease old new TargetFault = Fails lease.client old new
Stops lease old new NoMemory = NoneFailed old.trail new.trail
Stops lease old new (Busy lock now) = ⊥

abbrev pub ComesOr : {T : Type 0} → Lease → Lease → UpgradeStage → LineNow → LineNow →
    Result T LeaseErr → Type 0
ComesOr before after stage old new (Ok done) = HasCome before after stage new
ComesOr before after stage old new (Err e) = Stops before old new e

-- what an upgrade begins from: the version that was read, and the info if there was one
pub record Begins (lease : Lease) (trail : List Event) (from : ℕ) (info : Info) : Type 0 where
  pub stands : StandsAt lease trail (starts info)
  pub version : info.version ≡ from
  pub known : from ≤ SUPPORTED
  pub valid : IsInfo info

-- the info that was read, or that of a new target
abbrev pub info_or_new : ℕ → Option Info → Info
info_or_new from None = new_info from
info_or_new from (Some info) = info

-- each answer, by its cause
abbrev pub UpgradesTarget : Lease → Lease → LineNow → LineNow → Result ℕ LeaseErr → Type 0
UpgradesTarget before after old new (Ok version) =
    (version ≡ SUPPORTED) × HasCome before after Upgraded new
UpgradesTarget before after old new (Err e) = Stops before old new e
