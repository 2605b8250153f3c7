use Rattle.std.proofs.Common.{refl}
use Rattle.jop_cli.proofs.Runs.{acts_as}
use Rattle.jop_words.specs.declared.verb.Verb.TheVariants.{Check, Help, Sync, Upgrade, Version}
use Rattle.jop_cli.proofs.command.obey.Goals as goal

pub returns-in-Check-clause-acts : goal.returns-in-Check-clause-acts
returns-in-Check-clause-acts g c =
    acts_as _ (Check c.in-Check.target c.in-Check.client) _ _ _ c.in-Check.is
    (c.obey.ensures.acts c.in-Check.target)

pub returns-in-Help-clause-acts : goal.returns-in-Help-clause-acts
returns-in-Help-clause-acts g c =
    acts_as _ Help _ _ _ c.in-Help.is
    (c.obey-in-Help.ensures.acts Help (record { idle = refl; comes = λ o. (refl, refl) }))

pub returns-in-Sync-clause-acts : goal.returns-in-Sync-clause-acts
returns-in-Sync-clause-acts g c =
    acts_as _ (Sync c.in-Sync.target) _ _ _ c.in-Sync.is
    (c.obey-in-Sync.ensures.acts c.in-Sync.target)

pub returns-in-Upgrade-clause-acts : goal.returns-in-Upgrade-clause-acts
returns-in-Upgrade-clause-acts g c =
    acts_as _ (Upgrade c.in-Upgrade.target) _ _ _ c.in-Upgrade.is
    (c.obey-in-Upgrade.ensures.acts c.in-Upgrade.target)

pub returns-clause-acts : goal.returns-clause-acts
returns-clause-acts g c =
    acts_as _ Version _ _ _ c.in-Version.is
    (c.obey-in-Version.ensures.acts Version (record { idle = refl; comes = λ o. (refl, refl) }))
