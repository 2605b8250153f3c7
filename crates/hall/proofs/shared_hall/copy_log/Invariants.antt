use Rattle.std.proofs.Common.{◌≡◌, take}
use Rattle.hall.proofs.shared_hall.copy_log.Given as goal

abbrev pub invariant-loop-entry : goal.invariant-loop-entry
invariant-loop-entry l = l.copy.items ≡ take l.entry-index l.log
