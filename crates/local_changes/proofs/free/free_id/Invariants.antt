use Rattle.local_changes.proofs.Visits.{IsVisited}
use Rattle.local_changes.proofs.free.free_id.Given as goal

abbrev pub invariant-loop-steps : goal.invariant-loop-steps
invariant-loop-steps l = IsVisited l.tables l.fn.drawn l._steps l.id
