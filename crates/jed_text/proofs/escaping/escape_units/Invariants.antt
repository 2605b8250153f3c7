use Rattle.std.proofs.Common.{◌≡◌, take}
use Rattle.jed_text.specs.Escape.{escaped_units}
use Rattle.jed_text.proofs.escaping.escape_units.Given as goal

abbrev pub invariant-loop-unit : goal.invariant-loop-unit
invariant-loop-unit l = l.out.items ≡ escaped_units (take l.unit-index l.units)
