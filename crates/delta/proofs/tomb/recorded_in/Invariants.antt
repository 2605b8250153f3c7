use Rattle.std.proofs.Common.{◌≡◌, drop, ◌++◌}
use Rattle.delta.specs.Tombs.{recorded_in}
use Rattle.delta.proofs.tomb.recorded_in.Given as goal

abbrev pub invariant-loop-entry : goal.invariant-loop-entry
invariant-loop-entry l =
    l.ids.items ++ recorded_in (drop l.entry-index l.tombs.entries)
    ≡ recorded_in l.tombs.entries
