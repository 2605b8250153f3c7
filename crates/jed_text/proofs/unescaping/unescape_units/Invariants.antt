use Rattle.std.proofs.Common.{◌≡◌, ◌++◌, drop}
use Rattle.jed_text.specs.Escape.{unescaped_behind}
use Rattle.jed_text.proofs.unescaping.unescape_units.Given as goal

abbrev pub invariant-loop-n : goal.invariant-loop-n
invariant-loop-n l = l.out.items ++ unescaped_behind l.skipped (drop l.n l.units) ≡ unescaped_behind 0 l.units
