use Rattle.target_files.specs.Listed.{AreEntriesOf}
use Rattle.target_files.proofs.listing.entries_of.Given as goal

abbrev pub invariant-loop-name : goal.invariant-loop-name
invariant-loop-name g l = AreEntriesOf l.dir l.latest l.entries.items
