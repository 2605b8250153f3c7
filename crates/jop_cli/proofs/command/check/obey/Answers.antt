use Rattle.std.proofs.Common.{Ok, Err}
use Rattle.jop_cli.proofs.Checked.{comes_checked}
use Rattle.jop_cli.proofs.Runs.{acts_emitted, acts_refused}
use Rattle.jop_cli.proofs.Sessions.{early_session}
use Rattle.jop_words.specs.declared.verb.Verb.TheVariants.{Check}
use Rattle.jop_cli.proofs.command.check.obey.Goals as goal

pub returns-in-Ok-clause-acts : goal.returns-in-Ok-clause-acts
returns-in-Ok-clause-acts g c = λ name.
    acts_emitted (Check name c.args.client.now) _ _ _ _ _
    (comes_checked name c.args.client.now _ _ (Ok tt) c.requires c.in-Ok.ensures.checks)
    c.emit.ensures.emits

pub returns-in-Err-clause-acts : goal.returns-in-Err-clause-acts
returns-in-Err-clause-acts g c = λ name.
    acts_refused (Check name c.args.client.now) _ _ _ _
    (comes_checked name c.args.client.now _ _ (Err c.in-Err.error) c.requires
    c.in-Err.ensures.checks) c.from.ensures (early_session c.in-Err.error)
