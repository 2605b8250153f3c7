use Rattle.std.proofs.Common.{◌≡◌, length}
use Rattle.local_commands.specs.Books.{is_within}
use Rattle.local_commands.proofs.books.is_within.Given as goal

abbrev pub invariant-loop-left : goal.invariant-loop-left
invariant-loop-left l =
    is_within l.left l.tables l.id l.above ≡ is_within (length l.tables.rows) l.tables l.id l.book

abbrev pub decreases-loop-left : goal.decreases-loop-left
decreases-loop-left l = l.left
