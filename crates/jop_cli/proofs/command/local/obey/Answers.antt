use Rattle.std.proofs.Common.{◌∙◌, append-nil, subst, List, ℕ, Ok, Err}
use Rattle.jop_cli.proofs.Local.{comes_local, early_local}
use Rattle.jop_cli.proofs.Runs.{acts_emitted, acts_refused}
use Rattle.jop_cli.specs.Worlds.{EmitsTo}
use Rattle.jop_words.specs.declared.verb.Verb.TheVariants.{Local}
use Rattle.jop_cli.proofs.command.local.obey.Goals as goal

pub returns-in-Ok-clause-acts : goal.returns-in-Ok-clause-acts
returns-in-Ok-clause-acts g c =
    acts_emitted (Local c.args.command) _ _ _ _ _
    (comes_local c.args.command _ _ (Ok c.in-Ok.text) c.requires.fresh c.in-Ok.ensures.runs
    c.in-Ok.ensures.spares)
    (subst (λ (text : List ℕ). EmitsTo (Ok text) (g.W.Outside.now c.obey.new.outside)
    c.emit.result (g.W.Outside.now c.emit.new.self))
    (append-nil c.as_slice.result.now ∙ c.as_slice.ensures) c.emit.ensures.emits)

pub returns-in-Err-clause-acts : goal.returns-in-Err-clause-acts
returns-in-Err-clause-acts g c =
    acts_refused (Local c.args.command) _ _ _ _
    (comes_local c.args.command _ _ (Err c.in-Err.error) c.requires.fresh c.in-Err.ensures.runs
    c.in-Err.ensures.spares) c.from.ensures (early_local c.in-Err.error)
