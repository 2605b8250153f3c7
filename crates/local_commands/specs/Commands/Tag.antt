-- `tag`: a note bears a tag.
use Rattle.std.specs.Prelude.{ℕ, ◌≡◌, List, [], true, false, map, if◌then◌else◌, Option, Some, None, Result, Ok, Err}
use Rattle.local_changes.specs.Lookup.{is_row_of, note_kind}
use Rattle.local_changes.specs.Tagging.{tagged}
use Rattle.local_changes.specs.declared.store_err.StoreErr.{StoreErr}
use Rattle.local_store.specs.Tables.{row_at}
use Rattle.local_store.specs.declared.change.Change.{Change}
use Rattle.local_store.specs.declared.row.Row.{Row}
use Rattle.local_store.specs.declared.tables.Tables.{Tables}
use Rattle.local_commands.specs.declared.act.Act.TheVariants.{MakeChange}
use Rattle.local_commands.specs.declared.drawing.Drawing.TheVariants.{TwoIds}
use Rattle.local_commands.specs.declared.drawing.Ids.{Ids}
use Rattle.local_commands.specs.declared.drawing.Ids.TheVariants as ids
use Rattle.local_commands.specs.declared.work.Work.{Work}
use Rattle.local_commands.specs.declared.local_err.LocalErr.{LocalErr}
use Rattle.local_commands.specs.declared.local_err.LocalErr.TheVariants.{NotFound}
use Rattle.local_commands.specs.Refusals.{store_refusal}
use Rattle.local_commands.specs.Running.{Plan}

-- the note has to be there
abbrev pub ChecksNoteAt : List ℕ → Option Row → Option LocalErr → Type 0
ChecksNoteAt note row refusal =
    refusal ≡ (if is_row_of note_kind row then None else Some (NotFound note))

-- these changes are made in their order, and nothing is printed
abbrev pub tag_work : List Change → Work
tag_work changes = record { acts = map MakeChange changes; text = [] }

-- they are made, or refused
abbrev pub all_made : Result (List Change) StoreErr → Result Work LocalErr
all_made (Ok changes) = Ok (tag_work changes)
all_made (Err e) = Err (store_refusal e)

-- The tag of that title serves, or else a new one under the first id; the row that says that the note
-- bears it stands under the second, unless there is one.
abbrev pub MakesTag : List ℕ → List ℕ → Tables → ℕ → Ids → Result Work LocalErr → Type 0
MakesTag note title t now (ids.Two tag link) made =
    made ≡ all_made (tagged t tag link note title now)
MakesTag note title t now drawn made = ⊥

abbrev pub tag_plan : List ℕ → List ℕ → Plan
tag_plan note title = record {
  Checks = λ t refusal. ChecksNoteAt note (row_at t note) refusal;
  intake = None;
  clock = true;
  draws = TwoIds;
  bytes = false;
  Makes = λ t input now drawn made. MakesTag note title t now drawn made;
}
