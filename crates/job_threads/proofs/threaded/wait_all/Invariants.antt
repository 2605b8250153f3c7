use Rattle.std.proofs.Common.{map}
use Rattle.jop_outside.specs.Jobs.{Finishes}
use Rattle.job_threads.proofs.threaded.wait_all.Given as goal

abbrev pub invariant-loop-started : goal.invariant-loop-started
invariant-loop-started g l =
    Finishes g.J.Job.gives (map g.H.Running.job l.yielded) l.fn.done.items l.done.items l.outcome
