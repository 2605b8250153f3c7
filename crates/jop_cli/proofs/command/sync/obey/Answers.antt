use Rattle.std.proofs.Common.{Ok, Err}
use Rattle.jop_cli.proofs.Owned.{early_own}
use Rattle.jop_cli.proofs.Runs.{acts_emitted, acts_refused}
use Rattle.jop_cli.proofs.Synced.{comes_not_synced, comes_synced, early_sync}
use Rattle.jop_words.specs.declared.verb.Verb.TheVariants.{Sync}
use Rattle.jop_cli.proofs.command.sync.obey.Goals as goal

pub returns-in-Err-clause-acts : goal.returns-in-Err-clause-acts
returns-in-Err-clause-acts g c = λ name.
    acts_refused (Sync name) _ _ _ _
    (comes_not_synced name _ _ c.in-Err.error c.requires c.in-Err.ensures.owns) c.from.ensures
    (early_own c.in-Err.error)

pub returns-in-Ok-synced-clause-acts : goal.returns-in-Ok-synced-clause-acts
returns-in-Ok-synced-clause-acts g c = λ name.
    acts_emitted (Sync name) _ _ _ _ _
    (comes_synced name c.in-Ok.known.client _ _ _ _ (Ok c.in-Ok-synced.report) c.requires
    c.in-Ok.ensures.owns c.in-Ok.ensures.kept c.in-Ok-synced.ensures.syncs)
    c.emit_report.ensures.emits

pub returns-in-Err-synced-clause-acts : goal.returns-in-Err-synced-clause-acts
returns-in-Err-synced-clause-acts g c = λ name.
    acts_refused (Sync name) _ _ _ _
    (comes_synced name c.in-Ok.known.client _ _ _ _ (Err c.in-Err-synced.error) c.requires
    c.in-Ok.ensures.owns c.in-Ok.ensures.kept c.in-Err-synced.ensures.syncs) c.sync_status.ensures
    (early_sync c.in-Err-synced.error)
