use Rattle.std.proofs.Common.{◌≡◌, ◌++◌, take}
use Rattle.local_commands.specs.Commands.Lists.{list_lines}
use Rattle.local_commands.proofs.command.listing.put_rows.Given as goal

abbrev pub invariant-loop-row : goal.invariant-loop-row
invariant-loop-row l = l.text ≡ l.fn.text ++ list_lines l.notes l.which (take l.row-index l.rows)
