use Rattle.std.proofs.Common.{◌≡◌, drop}
use Rattle.std.specs.List.{find}
use Rattle.local_changes.specs.Tagging.{is_tag_of}
use Rattle.local_changes.proofs.tag.tag_of_title.Given as goal

abbrev pub invariant-loop-row : goal.invariant-loop-row
invariant-loop-row l =
    find (is_tag_of l.title) l.rows ≡ find (is_tag_of l.title) (drop l.row-index l.rows)
