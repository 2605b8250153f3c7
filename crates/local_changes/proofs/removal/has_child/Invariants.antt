use Rattle.std.proofs.Common.{◌≡◌, drop}
use Rattle.std.specs.List.{list_any}
use Rattle.local_changes.specs.Makers.{is_child}
use Rattle.local_changes.proofs.removal.has_child.Given as goal

abbrev pub invariant-loop-row : goal.invariant-loop-row
invariant-loop-row l =
    list_any (is_child l.book) l.rows ≡ list_any (is_child l.book) (drop l.row-index l.rows)
