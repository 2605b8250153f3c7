-- What becomes of a row that meets another client's work.
use Rattle.std.specs.Prelude.{ℕ, List, map, filter, Option}
use Rattle.local_store.specs.declared.change.Change.{Change}
use Rattle.local_store.specs.declared.change.Change.TheVariants.{Conflict, Moved}
use Rattle.local_store.specs.declared.content.Content.{Content}
use Rattle.local_store.specs.declared.row.Row.{Row}
use Rattle.local_store.specs.declared.tables.Tables.{Tables}
use Rattle.law_licences.specs.Copies.{copies_for}
use Rattle.law_licences.specs.Items.{is_note_in}

-- the row gives way to what its file holds, or to nothing, and its text is kept if it would be lost
abbrev pub conflict_change : Row → Option (List ℕ × Content) → Change
conflict_change row remote = Conflict row.id remote (copies_for row.content remote)

-- the row becomes a conflict note
abbrev pub move_of : Row → Change
move_of row = Moved row.id

-- the readable notes in a folder become conflict notes, in the order of their ids
abbrev pub folder_gone_changes : Tables → List ℕ → List Change
folder_gone_changes tables folder = map move_of (filter (is_note_in folder) tables.rows)
