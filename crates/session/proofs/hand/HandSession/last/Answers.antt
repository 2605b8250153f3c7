use Rattle.std.proofs.Common.{subst}
use Rattle.jop_target.specs.Trail.{EndsWith, LineNow}
use Rattle.session.proofs.hand.HandSession.last.Goals as goal

pub last-requires : goal.last-requires
last-requires g c = (
  c.requires.0,
  c.requires.1,
  subst (λ (l : LineNow). EndsWith l.trail c.requires.0 c.requires.1)
      (g.met.S.Client.same_line c.args.self.now.site.now) c.requires.2,
)

pub returns : goal.returns
returns g c = λ call reply ends.
    c.last.ensures call reply
    (subst (λ (l : LineNow). EndsWith l.trail call reply)
    (g.met.S.Client.same_line c.args.self.now.site.now) ends)
