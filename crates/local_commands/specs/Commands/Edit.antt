-- `edit`: another title and body for a note.
use Rattle.std.specs.Prelude.{ℕ, ◌≡◌, List, [], true, false, nat_eq, if◌then◌else◌, Option, Some, None, Result, Ok, Err}
use Rattle.item_kinds.specs.Kinds.{IsUpdated}
use Rattle.item_text.specs.declared.item.Item.{Item}
use Rattle.jop_base.specs.Times.{last_time}
use Rattle.local_changes.specs.Editing.{edited_note, plain_note}
use Rattle.local_changes.specs.declared.store_err.StoreErr.{StoreErr}
use Rattle.local_store.specs.Tables.{row_at}
use Rattle.local_commands.specs.Bodies.{body_intake}
use Rattle.local_commands.specs.declared.drawing.Drawing.TheVariants.{NoId}
use Rattle.local_commands.specs.declared.work.Work.{Work}
use Rattle.local_commands.specs.declared.local_err.LocalErr.{LocalErr}
use Rattle.local_commands.specs.declared.local_err.LocalErr.TheVariants.{TimeEnd}
use Rattle.local_commands.specs.Refusals.{store_refusal}
use Rattle.local_commands.specs.Running.{Plan}
use Rattle.local_commands.specs.Saving.{saving}

-- a note that was last changed at the end of time can't be changed later
abbrev pub why_last : List ℕ → ℕ → Option LocalErr
why_last id last = if nat_eq last last_time then Some (TimeEnd id) else None

-- a readable note is wanted, which wasn't last changed at the end of time
abbrev pub ChecksNote : List ℕ → Result Item StoreErr → Option LocalErr → Type 0
ChecksNote id (Ok item) refusal =
    (last : ℕ) × IsUpdated item.props last × (refusal ≡ why_last id last)
ChecksNote id (Err e) refusal = refusal ≡ Some (store_refusal e)

-- the note is saved with another title, if one is given, and the input as its body
abbrev pub MakesEdit : List ℕ → Option (List ℕ) → List ℕ → ℕ → Result Item StoreErr
    → Result Work LocalErr → Type 0
MakesEdit id title body now (Ok item) made =
    (last : ℕ) × IsUpdated item.props last
    × (made ≡ saving (edited_note id title body now last item) [])
MakesEdit id title body now (Err e) made = ⊥

abbrev pub edit_plan : List ℕ → Option (List ℕ) → Plan
edit_plan id title = record {
  Checks = λ t refusal. ChecksNote id (plain_note id (row_at t id)) refusal;
  intake = Some body_intake;
  clock = true;
  draws = NoId;
  bytes = false;
  Makes = λ t input now ids made. MakesEdit id title input now (plain_note id (row_at t id)) made;
}
