use Rattle.std.proofs.Common.{refl, sym, subst}
use Rattle.std.proofs.lemmas.Result.{err_from_is_err_and}
use Rattle.key_commands.proofs.Shown.{found_shows, refused_shows}
use Rattle.key_commands.proofs.command.blob.show_blob.Goals as goal

pub returns-in_err-row-clause-shows : goal.returns-in_err-row-clause-shows
returns-in_err-row-clause-shows g c =
    let p = err_from_is_err_and c.from_residual.result c.from_residual.ensures.1 in
    rw (p.1, p.2) (refused_shows _ _ _ _ _ c.in_err-row.ensures)

pub returns-clause-shows : goal.returns-clause-shows
returns-clause-shows g c =
    found_shows _ _ _ _ _ _ _ c.in_ok-row.ensures c.show_row.ensures.shows
