-- `untag`: a note bears a tag no more.
use Rattle.std.specs.Prelude.{ℕ, ◌≡◌, List, if◌then◌else◌, Option, Some, None, Ok}
use Rattle.std.specs.List.{list_any}
use Rattle.local_changes.specs.Lookup.{is_row_of, note_kind}
use Rattle.local_changes.specs.Tagging.{is_link, unlinking}
use Rattle.local_store.specs.Tables.{row_at}
use Rattle.local_store.specs.declared.tables.Tables.{Tables}
use Rattle.local_commands.specs.declared.local_err.LocalErr.{LocalErr}
use Rattle.local_commands.specs.declared.local_err.LocalErr.TheVariants.{NotFound}
use Rattle.local_commands.specs.Commands.Tag.{tag_work}
use Rattle.local_commands.specs.Running.{Plan, of_tables}

-- the note has to be there, and a row that says that it bears the tag
abbrev pub ChecksUntag : Tables → List ℕ → List ℕ → Option LocalErr → Type 0
ChecksUntag t note tag refusal =
    refusal ≡ (if is_row_of note_kind (row_at t note)
    then if list_any (is_link note tag) t.rows then None else Some (NotFound tag)
    else Some (NotFound note))

-- each such row goes, and nothing is printed
abbrev pub untag_plan : List ℕ → List ℕ → Plan
untag_plan note tag = of_tables
    (λ t refusal. ChecksUntag t note tag refusal)
    (λ t made. made ≡ Ok (tag_work (unlinking note tag t.rows)))
