use Rattle.std.proofs.lemmas.Result.{err_from_is_err_and}
use Rattle.jop_status.proofs.Three.{cut_first, cut_second, writes_third}
use Rattle.jop_status.proofs.output.write_three.Goals as goal

pub returns-in_err-write_whole : goal.returns-in_err-write_whole
returns-in_err-write_whole g c =
    let p = err_from_is_err_and c.from_residual.result c.from_residual.ensures.1 in
    rw (p.1) (cut_first _ _ c.args.first.now c.args.second.now c.args.third.now c.in_err-write_whole.ensures)

pub returns-in_err-write_whole-2 : goal.returns-in_err-write_whole-2
returns-in_err-write_whole-2 g c =
    let p = err_from_is_err_and c.from_residual-in_err-write_whole-2.result
    c.from_residual-in_err-write_whole-2.ensures.1 in
    rw (p.1) (cut_second _ _ _ c.args.first.now c.args.second.now c.args.third.now c.in_ok-write_whole.ensures c.in_err-write_whole-2.ensures)

pub returns : goal.returns
returns g c =
    writes_third _ _ _ _ c.args.first.now c.args.second.now c.args.third.now c.write_whole-3.result c.in_ok-write_whole.ensures
    c.in_ok-write_whole-2.ensures c.write_whole-3.ensures
