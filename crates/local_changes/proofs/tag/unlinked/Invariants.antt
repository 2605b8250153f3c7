use Rattle.std.proofs.Common.{◌≡◌, take}
use Rattle.local_changes.specs.Tagging.{unlinking}
use Rattle.local_changes.proofs.tag.unlinked.Given as goal

abbrev pub invariant-loop-row : goal.invariant-loop-row
invariant-loop-row l = l.changes ≡ unlinking l.note l.tag (take l.row-index l.rows)
