use Rattle.std.proofs.Common.{Ok, Err}
use Rattle.jop_cli.proofs.Owned.{early_own}
use Rattle.jop_cli.proofs.Runs.{acts_emitted, acts_refused}
use Rattle.jop_cli.proofs.Sessions.{early_session}
use Rattle.jop_cli.proofs.Upgraded.{comes_not_upgraded, comes_upgraded}
use Rattle.jop_words.specs.declared.verb.Verb.TheVariants.{Upgrade}
use Rattle.jop_cli.proofs.command.upgrade.obey.Goals as goal

pub returns-in-Err-clause-acts : goal.returns-in-Err-clause-acts
returns-in-Err-clause-acts g c = λ name.
    acts_refused (Upgrade name) _ _ _ _
    (comes_not_upgraded name _ _ c.in-Err.error c.requires c.in-Err.ensures.owns) c.from.ensures
    (early_own c.in-Err.error)

pub returns-in-Ok-upgrade-clause-acts : goal.returns-in-Ok-upgrade-clause-acts
returns-in-Ok-upgrade-clause-acts g c = λ name.
    acts_emitted (Upgrade name) _ _ _ _ _
    (comes_upgraded name c.in-Ok.known.client _ _ _ (Ok c.in-Ok-upgrade.version) c.requires
    c.in-Ok.ensures.owns c.in-Ok-upgrade.ensures.upgrades) c.emit.ensures.emits

pub returns-in-Err-upgrade-clause-acts : goal.returns-in-Err-upgrade-clause-acts
returns-in-Err-upgrade-clause-acts g c = λ name.
    acts_refused (Upgrade name) _ _ _ _
    (comes_upgraded name c.in-Ok.known.client _ _ _ (Err c.in-Err-upgrade.error) c.requires
    c.in-Ok.ensures.owns c.in-Err-upgrade.ensures.upgrades) c.from-in-Err-upgrade.ensures
    (early_session c.in-Err-upgrade.error)
