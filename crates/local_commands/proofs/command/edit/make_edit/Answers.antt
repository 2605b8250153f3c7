use Rattle.std.proofs.Common.{List, ℕ, Err, subst}
use Rattle.std.proofs.lemmas.Result.{err_from_is_err_and}
use Rattle.local_changes.specs.Editing.{Edits, plain_note}
use Rattle.local_store.specs.Tables.{row_at}
use Rattle.local_commands.proofs.Edits.{edit_unmade}
use Rattle.local_commands.proofs.command.edit.make_edit.Goals as goal

pub returns-in_err-change : goal.returns-in_err-change
returns-in_err-change c =
    let p = err_from_is_err_and c.from_residual-in_err-change.result
    c.from_residual-in_err-change.ensures.1 in
    let note = plain_note c.args.id (row_at c.args.tables.now c.args.id) in
    let e = c.in_err-change.field-0.0 in
    rw p.1
    (rw p.2
    (edit_unmade c.args.id c.args.title c.args.supply.input c.args.supply.now note e
    c.requires.ready.passed
    (subst (λ (body : List ℕ). Edits c.args.id c.args.title body c.args.supply.now note (Err e))
    c.in_ok-body.ensures c.in_err-change.ensures.answer)))
