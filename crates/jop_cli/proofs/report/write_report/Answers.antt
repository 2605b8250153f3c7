use Rattle.std.proofs.lemmas.Result.{err_from_is_err_and}
use Rattle.jop_cli.proofs.Two.{cut_before, writes_behind}
use Rattle.jop_cli.specs.Commands.Sync.{bad_text, counts_text}
use Rattle.jop_cli.proofs.report.write_report.Goals as goal

pub returns-in_err-write_bad : goal.returns-in_err-write_bad
returns-in_err-write_bad g c =
    let p = err_from_is_err_and c.from_residual.result c.from_residual.ensures.1 in
    let r = c.args.report.now in
    rw (p.1) (cut_before _ _ (bad_text r.bad) (counts_text r)
    (rw (← c.as_slice.ensures) c.in_err-write_bad.ensures))

pub returns : goal.returns
returns g c =
    let r = c.args.report.now in
    writes_behind _ _ _ (bad_text r.bad) (counts_text r) c.write_counts.result
    (rw (← c.as_slice.ensures) c.in_ok-write_bad.ensures) c.write_counts.ensures
