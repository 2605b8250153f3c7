use Rattle.std.proofs.Common.{arith}
use Rattle.std.proofs.lemmas.Option.{slice_get_within}
use Rattle.call_log.proofs.closing.compare_all.Goals as goal

pub returns-clause-ok : goal.returns-clause-ok
returns-clause-ok g c = λ place t here.
    let within = slice_get_within c.args.trails.now place t here in
    c.loop-index.invariant place (omega (arith, within, c.loop-index-test.false)) t here
