use Rattle.jop_outside.proofs.JobLaws.{none_yet}
use Rattle.jop_outside.proofs.in_turn.work_all.Goals as goal

pub loop-job-init : goal.loop-job-init
loop-job-init g c = none_yet _ _

pub loop-job-preserved : goal.loop-job-preserved
loop-job-preserved g c =
    c.keep-outcome.ensures _ c.in-Some.job _ c.loop-job.invariant c.work.ensures
