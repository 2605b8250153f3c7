use Rattle.test_hall.proofs.threads.doubled.Given as goal

-- jobs can still be given to it
abbrev pub invariant-loop-number : goal.invariant-loop-number
invariant-loop-number g l = g.S.Spawner.ready l.spawner
