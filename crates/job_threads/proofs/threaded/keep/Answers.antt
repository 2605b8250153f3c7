use Rattle.std.proofs.Common.{rules}
use Rattle.jop_outside.proofs.JobLaws.{added_more}
use Rattle.job_threads.proofs.threaded.keep.Goals as goal

pub returns : goal.returns
returns g c = λ jobs job before all one.
    added_more job c.args.made (rw c.in_ok-outcome.was at all) (search rules) one
