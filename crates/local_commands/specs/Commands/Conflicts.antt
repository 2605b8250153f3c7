-- `conflicts`: the conflict notes.
use Rattle.std.specs.Prelude.{ℕ, ◌≡◌, List, [], ◌∷◌, ◌++◌, None, Ok}
use Rattle.std.specs.Fmt.{decimal}
use Rattle.std.specs.List.{flat_map}
use Rattle.local_store.specs.declared.conflict_note.ConflictNote.{ConflictNote}
use Rattle.law_licences.specs.Copies.{title_or_empty}
use Rattle.local_commands.specs.Running.{Plan, of_tables, only_text}

-- the number, the id of the item, its title, and a line feed, with a space between each two
abbrev pub note_line : ConflictNote → List ℕ
note_line n =
    decimal n.number ++ 32 ∷ (n.note ++ 32 ∷ (title_or_empty n.item ++ 10 ∷ []))

-- a line for each, in the order in which they were made
abbrev pub note_lines : List ConflictNote → List ℕ
note_lines notes = flat_map note_line notes

abbrev pub conflicts_plan : Plan
conflicts_plan = of_tables
    (λ t refusal. refusal ≡ None)
    (λ t made. made ≡ Ok (only_text (note_lines t.conflicts)))
