use Rattle.std.proofs.Common.{◌≡◌, take, filter}
use Rattle.std.specs.Prelude.{map}
use Rattle.conflicts.specs.Rules.{move_of}
use Rattle.law_licences.specs.Items.{is_note_in}
use Rattle.conflicts.proofs.folder.folder_gone_changes.Given as goal

abbrev pub invariant-loop-row : goal.invariant-loop-row
invariant-loop-row l =
    l.changes ≡ map move_of (filter (is_note_in l.folder) (take l.row-index l.row-items))
