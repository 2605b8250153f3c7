use Rattle.std.proofs.Common.{◌≡◌, length}
use Rattle.local_commands.specs.Keeping.{AreAllowed}
use Rattle.local_commands.proofs.InARow.{StillDoes}
use Rattle.local_commands.proofs.acting.do_all.Given as goal

abbrev pub invariant-loop-alloc : goal.invariant-loop-alloc
invariant-loop-alloc g l = record {
  allowed : AreAllowed l.left;
  still : StillDoes l.fn.acts (g.O.Outside.now l.fn.outside) l.left (g.O.Outside.now l.outside);
  stays : g.O.Outside.place l.outside ≡ g.O.Outside.place l.fn.outside;
}

abbrev pub decreases-loop-alloc : goal.decreases-loop-alloc
decreases-loop-alloc g l = length l.left
