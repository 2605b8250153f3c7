-- The change that gives a note or a notebook another title, or another notebook.
use Rattle.std.specs.Prelude.{ℕ, ◌+◌, max, nat_eq, List, Bool, ◌||◌, codes, if◌then◌else◌, Option, Some, None, Result, Ok, Err}
use Rattle.jop_base.specs.Times.{last_time}
use Rattle.item_kinds.specs.Kinds.{IsUpdated}
use Rattle.item_kinds.specs.Made.{IsLine}
use Rattle.item_text.specs.Props.{with_prop}
use Rattle.item_text.specs.declared.item.Item.{Item}
use Rattle.item_text.specs.declared.item.Prop.{Prop}
use Rattle.local_store.specs.declared.change.Change.{Change}
use Rattle.local_store.specs.declared.row.Row.{Row}
use Rattle.local_store.specs.Rows.{item_of, has_kind}
use Rattle.local_changes.specs.declared.amend.Amendment.{Amendment}
use Rattle.local_changes.specs.declared.amend.Amendment.TheVariants.{Title, Book}
use Rattle.local_changes.specs.declared.store_err.StoreErr.{StoreErr}
use Rattle.local_changes.specs.declared.store_err.StoreErr.TheVariants.{NotFound, TimeEnd}
use Rattle.local_changes.specs.Answers.{IsDueOrMemory}
use Rattle.local_changes.specs.Editing.{plain_item, stamped}
use Rattle.local_changes.specs.Lookup.{folder_kind, note_kind}
use Rattle.local_changes.specs.Saving.{saved_within}

-- ---- what is amended

-- a note or a notebook
abbrev pub is_entry : Item → Bool
is_entry item = has_kind note_kind item || has_kind folder_kind item

-- the readable item of a row that is a note or a notebook
abbrev pub plain_entry : List ℕ → Option Row → Result Item StoreErr
plain_entry id None = Err (NotFound id)
plain_entry id (Some r) =
    if is_entry (item_of r.content) then plain_item id r.content else Err (NotFound id)

-- ---- the new item

-- a title stands on a line
abbrev pub IsFitAmendment : Amendment → Type 0
IsFitAmendment (Title title) = IsLine title
IsFitAmendment (Book book) = Unit {0}

-- what says in which notebook an item is
abbrev pub parent_prop : List ℕ → Prop
parent_prop book = record { key = codes "parent_id"; value = book }

-- with another title, or in another notebook, and all else as it was
abbrev pub amended_item : Amendment → Item → Item
amended_item (Title title) item = record item { title = Some title }
amended_item (Book book) item = record item { props = with_prop (parent_prop book) item.props }

-- ---- the change

-- The item is saved so, unless it was last changed at the end of time. It counts as changed now, or a
-- millisecond after its last change if that is later.
abbrev pub amended : List ℕ → Amendment → ℕ → ℕ → Item → Result Change StoreErr
amended id amendment now last item =
    if nat_eq last last_time then Err (TimeEnd id)
    else saved_within id (stamped (max now (last + 1)) (amended_item amendment item))

-- the answer is that for an item which was last changed at its own time, or else the refusal
abbrev pub Amends : List ℕ → Amendment → ℕ → Result Item StoreErr → Result Change StoreErr → Type 0
Amends id amendment now (Err e) result = IsDueOrMemory (Err e) result
Amends id amendment now (Ok item) result =
    (last : ℕ) × IsUpdated item.props last
    × IsDueOrMemory (amended id amendment now last item) result
