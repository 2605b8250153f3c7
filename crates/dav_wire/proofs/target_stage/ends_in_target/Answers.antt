use Rattle.std.proofs.Common.{sym, ◌∙◌, refl}
use Rattle.std.proofs.lemmas.Bool.{false≢true}
use Rattle.dav_wire.proofs.StageLemmas.{target_from_stage, stage_from_target}
use Rattle.dav_wire.proofs.target_stage.ends_in_target.Goals as goal

pub returns-in-Target : goal.returns-in-Target
returns-in-Target c = (
  λ yes. target_from_stage c.args.bytes.now (sym c.stage_of.ensures
      ∙ c.in-Target.is),
  λ h. refl,
)

pub returns-in_default : goal.returns-in_default
returns-in_default c = (
  λ yes. absurd (false≢true yes),
  λ h.
      absurd (c.in_default.not-Target (c.stage_of.ensures ∙ stage_from_target c.args.bytes.now h)),
)
