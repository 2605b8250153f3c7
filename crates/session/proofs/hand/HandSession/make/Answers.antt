use Rattle.std.specs.Prelude.{None}
use Rattle.session.proofs.Ending.{ends_there}
use Rattle.session.proofs.hand.HandSession.make.Goals as goal

pub returns : goal.returns
returns g c = record {
  ends = λ sort.
      ends_there _ sort _ _ c.make_shown.result c.requires.more
      (c.make_shown.ensures.ends None sort (λ shown fits. c.requires.may shown));
  fails = c.make_shown.ensures.fails;
}
