use Rattle.std.proofs.Common.{◌≡◌}
use Rattle.jed_text.specs.Escape.{escaped_pieces}
use Rattle.jed_text.proofs.escaping.escape.Given as goal

abbrev pub invariant-loop-n : goal.invariant-loop-n
invariant-loop-n l = l.pieces.items ≡ escaped_pieces l.units.items l.n
