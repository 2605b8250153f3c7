-- What was open, by another name of the target that was open at first.
use Rattle.std.specs.Prelude.{ℕ, ◌≡◌, None}
use Rattle.std.proofs.Common.{subst}
use Rattle.jop_start.specs.Opening.{OpenNow, OpensOn, WhileOpen}
use Rattle.jop_target.specs.Replies.{TargetNow}
use Rattle.keeper.specs.Keepers.{KeeperNow}

pub opens_as : (keeper : KeeperNow) (target same : TargetNow) (done : OpenNow → OpenNow → Type 0) →
    target ≡ same → WhileOpen (OpensOn keeper target) done → WhileOpen (OpensOn keeper same) done
opens_as keeper target same done is = subst (λ (t : TargetNow). WhileOpen (OpensOn keeper t) done) is

-- a target that tells nothing of what it holds
abbrev pub untold_target : ℕ → TargetNow
untold_target faults = record { store = None; faults = faults }
