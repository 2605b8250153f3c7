-- `rename` and `move`: another title, or another notebook, for a note or a notebook.
use Rattle.std.specs.Prelude.{ℕ, ◌≡◌, List, [], length, Bool, true, false, nat_eq, if◌then◌else◌, Option, Some, None, option_map, Result, Ok, Err}
use Rattle.item_kinds.specs.Kinds.{IsUpdated}
use Rattle.item_text.specs.declared.item.Item.{Item}
use Rattle.jop_base.specs.Times.{last_time}
use Rattle.local_changes.specs.Amending.{amended, plain_entry}
use Rattle.local_changes.specs.declared.amend.Amendment.{Amendment}
use Rattle.local_changes.specs.declared.amend.Amendment.TheVariants as amendments
use Rattle.local_changes.specs.declared.store_err.StoreErr.{StoreErr}
use Rattle.local_store.specs.Tables.{row_at}
use Rattle.local_store.specs.declared.tables.Tables.{Tables}
use Rattle.local_commands.specs.Books.{is_within, missing_book}
use Rattle.local_commands.specs.declared.drawing.Drawing.TheVariants.{NoId}
use Rattle.local_commands.specs.declared.work.Work.{Work}
use Rattle.local_commands.specs.declared.local_err.LocalErr.{LocalErr}
use Rattle.local_commands.specs.declared.local_err.LocalErr.TheVariants.{BelowItself, NotFound, TimeEnd}
use Rattle.local_commands.specs.Refusals.{store_refusal}
use Rattle.local_commands.specs.Running.{Plan}
use Rattle.local_commands.specs.Saving.{saving}

-- ---- what the tables allow

-- what was last changed at the end of time can't be changed later, and nothing comes below itself
abbrev pub why_fixed : List ℕ → Bool → ℕ → Option LocalErr
why_fixed id below last =
    if nat_eq last last_time then Some (TimeEnd id)
    else if below then Some (BelowItself id) else None

-- No notebook may be missing; a readable note or notebook is wanted, which wasn't last changed at the end
-- of time and wouldn't come below itself.
abbrev pub ChecksAmend : List ℕ → Option LocalErr → Bool → Result Item StoreErr → Option LocalErr → Type 0
ChecksAmend id (Some missing) below entry refusal = refusal ≡ Some missing
ChecksAmend id None below (Err e) refusal = refusal ≡ Some (store_refusal e)
ChecksAmend id None below (Ok item) refusal =
    (last : ℕ) × IsUpdated item.props last × (refusal ≡ why_fixed id below last)

-- the notebook that is missing, if one is asked for
abbrev pub missing_for : Tables → Amendment → Option LocalErr
missing_for t (amendments.Title title) = None
missing_for t (amendments.Book book) = option_map NotFound (missing_book t (Some book))

-- the item would come below itself
abbrev pub comes_below : Tables → List ℕ → Amendment → Bool
comes_below t id (amendments.Title title) = false
comes_below t id (amendments.Book book) = is_within (length t.rows) t id book

-- what the tables refuse of a move into a notebook
abbrev pub ChecksMove : Tables → List ℕ → List ℕ → Option LocalErr → Type 0
ChecksMove t id book refusal =
    ChecksAmend id (option_map NotFound (missing_book t (Some book)))
    (is_within (length t.rows) t id book) (plain_entry id (row_at t id)) refusal

-- ---- what is made

-- the note or notebook is saved with another title, or in another notebook
abbrev pub MakesAmend : List ℕ → Amendment → ℕ → Result Item StoreErr → Result Work LocalErr → Type 0
MakesAmend id amendment now (Ok item) made =
    (last : ℕ) × IsUpdated item.props last
    × (made ≡ saving (amended id amendment now last item) [])
MakesAmend id amendment now (Err e) made = ⊥

abbrev pub amend_plan : List ℕ → Amendment → Plan
amend_plan id amendment = record {
  Checks = λ t refusal. ChecksAmend id (missing_for t amendment) (comes_below t id amendment)
      (plain_entry id (row_at t id)) refusal;
  intake = None;
  clock = true;
  draws = NoId;
  bytes = false;
  Makes = λ t input now ids made.
      MakesAmend id amendment now (plain_entry id (row_at t id)) made;
}
