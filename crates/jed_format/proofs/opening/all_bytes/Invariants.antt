use Rattle.jed_format.specs.Opening.{piece_bytes}
use Rattle.jed_format.proofs.Joined.{Joins}
use Rattle.jed_format.proofs.opening.all_bytes.Given as goal

abbrev pub invariant-loop-n : goal.invariant-loop-n
invariant-loop-n l = Joins (piece_bytes l.method) l.password l.chunks l.all l.n
