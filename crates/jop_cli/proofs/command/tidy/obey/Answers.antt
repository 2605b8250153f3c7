use Rattle.std.proofs.Common.{◌∙◌, ap, subst, List, ℕ, Err}
use Rattle.jop_cli.proofs.Runs.{acts_emitted, acts_refused}
use Rattle.jop_cli.proofs.Tidied.{comes_tidied, early_tidy, tidies_of, tidies_unread}
use Rattle.jop_cli.specs.Commands.Tidy.{TidiesBytes, bytes_outcome, read_err, tidy_status}
use Rattle.jop_words.specs.declared.verb.Verb.TheVariants.{Tidy}
use Rattle.jop_cli.proofs.command.tidy.obey.Goals as goal

pub returns-in-Ok-clause-acts : goal.returns-in-Ok-clause-acts
returns-in-Ok-clause-acts g c =
    let tidied = c.tidy_bytes.ensures.tidies in
    let tidies = subst (λ (bytes : List ℕ). TidiesBytes bytes tidied.text) c.as_slice.ensures
    tidied.tidies in
    acts_emitted Tidy _ _ _ (bytes_outcome tidied.text) _
    (comes_tidied _ _ (bytes_outcome tidied.text) c.requires
    (tidies_of _ _ c.in-Ok.bytes tidied.text c.in-Ok.ensures.reads tidies)) tidied.emits

pub returns-in-Err-clause-acts : goal.returns-in-Err-clause-acts
returns-in-Err-clause-acts g c =
    acts_refused Tidy _ _ _ _
    (comes_tidied _ _ (Err (tidy_status (read_err c.in-Err.error))) c.requires
    (tidies_unread _ _ c.in-Err.error c.in-Err.ensures.reads))
    (c.from-in-Err.ensures ∙ ap tidy_status c.from.ensures) (early_tidy (read_err c.in-Err.error))
