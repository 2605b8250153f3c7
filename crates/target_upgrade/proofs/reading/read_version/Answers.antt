use Rattle.std.proofs.lemmas.Result.{err_from_is_err_and}
use Rattle.target_upgrade.proofs.Judged.{absent_told, can_goes, can_stops, found_untold, none_told, old_told, some_told}
use Rattle.target_upgrade.proofs.Made.{come_then, goes_then, stops_then}
use Rattle.target_upgrade.proofs.Standing.{found_old, read_heard, read_shape, told_none, told_some, told_stops}
use Rattle.target_upgrade.proofs.reading.read_version.Goals as goal

pub told-requires-clause-shape : goal.told-requires-clause-shape
told-requires-clause-shape g c = read_shape _ _ (g.L.Line.state c.args.line.now).trail _ _ _ _
    c.in_ok-ask.ensures.ok c.last.ensures

pub told-requires-clause-heard : goal.told-requires-clause-heard
told-requires-clause-heard g c = read_heard _ _ (g.L.Line.state c.args.line.now).trail _ _ _ _
    c.in_ok-ask.ensures.ok c.last.ensures

pub returns-in_err-info-clause-err : goal.returns-in_err-info-clause-err
returns-in_err-info-clause-err g c =
    let p = err_from_is_err_and c.from_residual-in_err-info.result
    c.from_residual-in_err-info.ensures.1 in
    rw (p.1, p.2) (told_stops _ _ (g.L.Line.state c.args.line.now) _ _ _ c.requires
    c.in_ok-ask.ensures.ok c.ask.ensures.goes c.last.ensures c.in_err-info.ensures)

pub read_old-requires : goal.read_old-requires
read_old-requires g c = (told_none _ _ _ _ _ c.requires c.in_ok-ask.ensures.ok c.last.ensures
    (rw c.in-None.is at c.in_ok-info.ensures)).stands

pub returns-in_err-read_old-in-None-clause-goes : goal.returns-in_err-read_old-in-None-clause-goes
returns-in_err-read_old-in-None-clause-goes g c =
    let come = told_none _ _ _ _ _ c.requires c.in_ok-ask.ensures.ok c.last.ensures
    (rw c.in-None.is at c.in_ok-info.ensures) in
    goes_then _ _ _ _ _ _ come c.ask.ensures.goes c.read_old.ensures.goes

pub returns-in-Some-clause-ok : goal.returns-in-Some-clause-ok
returns-in-Some-clause-ok g c = told_some _ _ _ _ c.in-Some.info _ c.requires c.in_ok-ask.ensures.ok
    c.last.ensures (rw c.in-Some.is at c.in_ok-info.ensures)

pub returns-in_ok-read_old-in-None-clause-ok : goal.returns-in_ok-read_old-in-None-clause-ok
returns-in_ok-read_old-in-None-clause-ok g c =
    let come = told_none _ _ _ _ _ c.requires c.in_ok-ask.ensures.ok c.last.ensures
    (rw c.in-None.is at c.in_ok-info.ensures) in
    found_old _ _ _ _ c.in_ok-read_old-in-None.ensures.small
    (come_then _ _ _ _ _ _ _ come c.in_ok-read_old-in-None.ensures.ok)

pub returns-in_ok-read_old-in-None-clause-goes : goal.returns-in_ok-read_old-in-None-clause-goes
returns-in_ok-read_old-in-None-clause-goes g c =
    let come = told_none _ _ _ _ _ c.requires c.in_ok-ask.ensures.ok c.last.ensures
    (rw c.in-None.is at c.in_ok-info.ensures) in
    goes_then _ _ _ _ _ _ come c.ask.ensures.goes c.read_old.ensures.goes

pub returns-in_err-read_old-in-None-clause-err : goal.returns-in_err-read_old-in-None-clause-err
returns-in_err-read_old-in-None-clause-err g c =
    let p = err_from_is_err_and c.from_residual-in_err-read_old-in-None.result
    c.from_residual-in_err-read_old-in-None.ensures.1 in
    let come = told_none _ _ _ _ _ c.requires c.in_ok-ask.ensures.ok c.last.ensures
    (rw c.in-None.is at c.in_ok-info.ensures) in
    rw (p.1, p.2)
    (stops_then _ _ _ _ _ _ _ come c.ask.ensures.goes c.in_err-read_old-in-None.ensures.err)

pub returns-in_err-ask-clause-order : goal.returns-in_err-ask-clause-order
returns-in_err-ask-clause-order g c unread =
    let p = err_from_is_err_and c.from_residual.result c.from_residual.ensures.1 in
    rw (p.1, p.2) (found_untold _ _ _ c.in_err-ask.ensures.once unread)

pub returns-in_err-info-clause-order : goal.returns-in_err-info-clause-order
returns-in_err-info-clause-order g c unread =
    let p = err_from_is_err_and c.from_residual-in_err-info.result
    c.from_residual-in_err-info.ensures.1 in
    rw (p.1, p.2) (none_told _ _ _ _ c.in_ok-ask.ensures.once c.last.ensures
    c.in_err-info.ensures unread)

pub returns-in-Some-clause-order : goal.returns-in-Some-clause-order
returns-in-Some-clause-order g c unread =
    some_told _ _ _ c.in-Some.info c.in_ok-ask.ensures.once c.last.ensures
    (rw c.in-Some.is at c.in_ok-info.ensures) unread

pub returns-in_ok-read_old-in-None-clause-order :
    goal.returns-in_ok-read_old-in-None-clause-order
returns-in_ok-read_old-in-None-clause-order g c unread =
    old_told _ _ c.in_ok-read_old-in-None.ensures.small
    (can_goes _ _ _ (absent_told _ _ _ c.in_ok-ask.ensures.once c.last.ensures
    (rw c.in-None.is at c.in_ok-info.ensures) unread) c.read_old.ensures.goes)

pub returns-in_err-read_old-in-None-clause-order :
    goal.returns-in_err-read_old-in-None-clause-order
returns-in_err-read_old-in-None-clause-order g c unread =
    let p = err_from_is_err_and c.from_residual-in_err-read_old-in-None.result
    c.from_residual-in_err-read_old-in-None.ensures.1 in
    rw (p.1, p.2) (can_stops _ _
    (can_goes _ _ _ (absent_told _ _ _ c.in_ok-ask.ensures.once c.last.ensures
    (rw c.in-None.is at c.in_ok-info.ensures) unread) c.read_old.ensures.goes))
