use Rattle.std.proofs.Common.{◌≡◌, drop}
use Rattle.std.specs.List.{find}
use Rattle.local_commands.specs.Commands.Clear.{has_number}
use Rattle.local_commands.proofs.command.show.note_of.Given as goal

abbrev pub invariant-loop-note : goal.invariant-loop-note
invariant-loop-note l =
    find (has_number l.number) l.notes ≡ find (has_number l.number) (drop l.note-index l.notes)
