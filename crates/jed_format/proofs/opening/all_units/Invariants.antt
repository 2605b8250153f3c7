use Rattle.jed_format.specs.Opening.{piece_units}
use Rattle.jed_format.proofs.Joined.{Joins}
use Rattle.jed_format.proofs.opening.all_units.Given as goal

abbrev pub invariant-loop-n : goal.invariant-loop-n
invariant-loop-n l = Joins (piece_units l.method) l.password l.chunks l.all.items l.n
