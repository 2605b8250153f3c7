use Rattle.std.proofs.lemmas.List.{map-append}
use Rattle.jop_outside.proofs.JobLaws.{none_yet}
use Rattle.job_threads.proofs.threaded.wait_all.Goals as goal

pub loop-started-init : goal.loop-started-init
loop-started-init g c = none_yet _ _

pub loop-started-preserved : goal.loop-started-preserved
loop-started-preserved g c =
    rw (map-append g.H.Running.job c.loop-started.yielded _)
    (c.keep-outcome.ensures _ (g.H.Running.job c.in-Some.started) _ c.loop-started.invariant c.wait.ensures)
