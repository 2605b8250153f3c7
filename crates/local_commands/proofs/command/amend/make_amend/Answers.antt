use Rattle.std.proofs.lemmas.Result.{err_from_is_err_and}
use Rattle.local_changes.specs.Amending.{plain_entry}
use Rattle.local_store.specs.Tables.{row_at}
use Rattle.local_commands.specs.Commands.Amend.{comes_below, missing_for}
use Rattle.local_commands.proofs.Amended.{amend_made, amend_unmade}
use Rattle.local_commands.proofs.command.amend.make_amend.Goals as goal

pub returns-in_err-change : goal.returns-in_err-change
returns-in_err-change c =
    let p = err_from_is_err_and c.from_residual.result c.from_residual.ensures.1 in
    rw p.1
    (rw p.2
    (amend_unmade c.args.id (missing_for c.args.tables.now c.args.amendment)
    (comes_below c.args.tables.now c.args.id c.args.amendment) c.args.amendment c.args.now
    (plain_entry c.args.id (row_at c.args.tables.now c.args.id)) c.in_err-change.field-0.0
    c.requires.passed c.in_err-change.ensures.answer))

pub returns : goal.returns
returns c =
    rw c.in_ok-one_change.ensures
    (rw c.new.ensures
    (amend_made c.args.id c.args.amendment c.args.now
    (plain_entry c.args.id (row_at c.args.tables.now c.args.id)) c.in_ok-change.change
    c.in_ok-change.ensures.answer c.in_ok-change.ensures.allowed))
