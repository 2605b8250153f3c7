use Rattle.std.proofs.Common.{◌≡◌, take}
use Rattle.local_commands.specs.Commands.Lists.{bearers}
use Rattle.local_commands.proofs.command.listing.bearers.Given as goal

abbrev pub invariant-loop-row : goal.invariant-loop-row
invariant-loop-row l = l.notes ≡ bearers l.tag (take l.row-index l.rows)
