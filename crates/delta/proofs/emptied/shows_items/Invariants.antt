use Rattle.std.proofs.Common.{◌≡◌, drop}
use Rattle.delta.specs.Marks.{marks_of}
use Rattle.delta.proofs.emptied.shows_items.Given as goal

abbrev pub invariant-loop-entry : goal.invariant-loop-entry
invariant-loop-entry l =
    marks_of l.listing.entries ≡ marks_of (drop l.entry-index l.listing.entries)
