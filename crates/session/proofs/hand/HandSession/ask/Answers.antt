use Rattle.session.proofs.Stepped.{asked, plainly, plainly_askable, stays_at}
use Rattle.session.specs.Sessions.{HearsOr}
use Rattle.session.proofs.hand.HandSession.ask.Goals as goal

pub ask-requires-clause-askable : goal.ask-requires-clause-askable
ask-requires-clause-askable g c = plainly_askable _ _ _ _ c.requires.plain c.requires.may

pub returns-clause-ends : goal.returns-clause-ends
returns-clause-ends g c = λ sort sorted.
    let plain = plainly c.args.call c.requires.plain in
    stays_at (HearsOr c.args.call sort _ c.ask.result) _ _ _ _ _ _ _ _ c.ask.ensures.stays
    (asked _ _ sort c.args.call _ _ _ _ _ c.ask.result plain.got plain.noted c.ask.ensures.asks sorted)

pub returns-clause-once : goal.returns-clause-once
returns-clause-once g c = c.ask.ensures.once
