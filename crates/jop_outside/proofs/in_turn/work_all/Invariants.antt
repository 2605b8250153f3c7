use Rattle.jop_outside.specs.Jobs.{Finishes}
use Rattle.jop_outside.proofs.in_turn.work_all.Given as goal

-- the jobs so far are done
abbrev pub invariant-loop-job : goal.invariant-loop-job
invariant-loop-job g l =
    Finishes g.J.Job.gives l.yielded l.fn.done.items l.done.items l.outcome
