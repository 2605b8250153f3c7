use Rattle.std.proofs.Common.{◌∙◌, append-nil, subst, List, ℕ, Ok, Err}
use Rattle.jop_cli.proofs.Keyed.{comes_keys, early_keys}
use Rattle.jop_cli.proofs.Runs.{acts_emitted, acts_refused}
use Rattle.jop_cli.specs.Worlds.{EmitsTo}
use Rattle.jop_words.specs.declared.verb.Verb.TheVariants.{Keys}
use Rattle.jop_cli.proofs.command.keys.obey.Goals as goal

pub returns-in-Ok-clause-acts : goal.returns-in-Ok-clause-acts
returns-in-Ok-clause-acts g c =
    acts_emitted (Keys c.args.command) _ _ _ _ _
    (comes_keys c.args.command _ _ (Ok c.in-Ok.text) c.requires c.in-Ok.ensures.runs)
    (subst (λ (text : List ℕ). EmitsTo (Ok text) (g.W.Outside.now c.obey_keys.new.self)
    c.emit.result (g.W.Outside.now c.emit.new.self))
    (append-nil c.as_slice.result.now ∙ c.as_slice.ensures) c.emit.ensures.emits)

pub returns-in-Err-clause-acts : goal.returns-in-Err-clause-acts
returns-in-Err-clause-acts g c =
    acts_refused (Keys c.args.command) _ _ _ _
    (comes_keys c.args.command _ _ (Err c.in-Err.error) c.requires c.in-Err.ensures.runs)
    c.from.ensures (early_keys c.in-Err.error)
