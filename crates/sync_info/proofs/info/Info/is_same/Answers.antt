use Rattle.std.proofs.Common.{subst, sym, ◌≡◌, Bool}
use Rattle.std.specs.Bool.{Decides}
use Rattle.sync_info.proofs.Same.{info_decides}
use Rattle.sync_info.proofs.info.Info.is_same.Goals as goal

pub returns : goal.returns
returns c =
    subst (λ (r : Bool). Decides r (c.args.self.now ≡ c.args.other.now)) (sym c.eq.ensures)
    (info_decides c.args.self.now c.args.other.now)
