use Rattle.std.proofs.lemmas.Result.{err_from_is_err_and}
use Rattle.key_commands.proofs.Shown.{row_shown, row_unloaded}
use Rattle.key_commands.proofs.command.blob.show_row.Goals as goal

pub returns-in_err-bytes-clause-shows : goal.returns-in_err-bytes-clause-shows
returns-in_err-bytes-clause-shows g c =
    let p = err_from_is_err_and c.from_residual.result c.from_residual.ensures.1 in
    rw (p.1, p.2) (row_unloaded _ _ _ _ _ _ c.in_err-bytes.ensures.loads)

pub returns-clause-shows : goal.returns-clause-shows
returns-clause-shows g c =
    row_shown _ _ _ _ _ _ _ c.in_ok-bytes.ensures.loads.0 c.in_ok-bytes.ensures.loads.1 c.shown_bytes.ensures
