use Rattle.std.proofs.Common.{◌≡◌, drop}
use Rattle.std.specs.List.{list_any}
use Rattle.local_changes.specs.Tagging.{is_link}
use Rattle.local_changes.proofs.tag.has_link.Given as goal

abbrev pub invariant-loop-row : goal.invariant-loop-row
invariant-loop-row l =
    list_any (is_link l.note l.tag) l.rows
    ≡ list_any (is_link l.note l.tag) (drop l.row-index l.rows)
