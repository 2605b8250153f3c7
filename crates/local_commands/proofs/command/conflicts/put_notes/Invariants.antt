use Rattle.std.proofs.Common.{◌≡◌, ◌++◌, take}
use Rattle.local_commands.specs.Commands.Conflicts.{note_lines}
use Rattle.local_commands.proofs.command.conflicts.put_notes.Given as goal

abbrev pub invariant-loop-note : goal.invariant-loop-note
invariant-loop-note l = l.text ≡ l.fn.text ++ note_lines (take l.note-index l.notes)
