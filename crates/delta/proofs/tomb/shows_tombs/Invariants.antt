use Rattle.std.proofs.Common.{◌≡◌, drop}
use Rattle.delta.specs.Tombs.{recorded_in}
use Rattle.delta.proofs.tomb.shows_tombs.Given as goal

abbrev pub invariant-loop-entry : goal.invariant-loop-entry
invariant-loop-entry l =
    recorded_in l.tombs.entries ≡ recorded_in (drop l.entry-index l.tombs.entries)
