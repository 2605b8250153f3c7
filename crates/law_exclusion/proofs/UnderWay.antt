-- An upgrade that is under way goes on, or is done, or can do no more.
use Rattle.std.proofs.Common.{◌≡◌, refl, [], ◌∷◌, Bool, true, false}
use Rattle.jop_target.specs.declared.reply.Reply.{Reply}
use Rattle.jop_target.specs.declared.reply.Reply.TheVariants.{Listed, Done, Failed}
use Rattle.sync_info.specs.declared.info.Info.{Info}
use Rattle.target_upgrade.specs.Steps.{UpgradeStage, At, Gets, Upgraded, Stuck, after_step, stage_after_reply}
use Rattle.target_upgrade.specs.declared.step.Step.{Step}
use Rattle.target_upgrade.specs.declared.step.Step.TheVariants.{ListsRoot}

-- the version was read, and steps are to be made
abbrev pub is_under_way : UpgradeStage → Bool
is_under_way (At step info) = true
is_under_way (Gets ids info) = true
is_under_way stage = false

step_on : (P : UpgradeStage → Type 0) (step : Step) (info : Info) (reply : Reply) → P Stuck →
    ((next : UpgradeStage) → is_under_way next ≡ true → P next) → P (after_step step info reply)
step_on P ListsRoot info (Listed listing) stuck on = on _ refl
step_on P step info (Done now) stuck on = on _ refl
step_on P step info reply stuck on = stuck

pub under_way_on : (P : UpgradeStage → Type 0) (stage : UpgradeStage) (reply : Reply) → P Stuck →
    P Upgraded →
    ((next : UpgradeStage) → is_under_way next ≡ true → P next) → is_under_way stage ≡ true →
    P (stage_after_reply stage reply)
under_way_on P (At step info) reply stuck upgraded on h = step_on P step info reply stuck on
under_way_on P (Gets (id ∷ ids) info) Failed stuck upgraded on h = stuck
under_way_on P (Gets (id ∷ ids) info) reply stuck upgraded on h = on _ refl
under_way_on P (Gets [] info) (Done now) stuck upgraded on h = upgraded
under_way_on P (Gets [] info) reply stuck upgraded on h = stuck
under_way_on P stage reply stuck upgraded on h = cc
