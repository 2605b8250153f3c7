-- The change that edits a note.
use Rattle.std.specs.Prelude.{ℕ, ◌≡◌, ◌+◌, max, nat_eq, List, [], codes, unwrap_or, if◌then◌else◌, Option, Some, None, Result, Ok, Err}
use Rattle.std.specs.Borrow.{Bor}
use Rattle.jop_base.specs.Times.{last_time}
use Rattle.item_kinds.specs.Kinds.{IsUpdated}
use Rattle.item_kinds.specs.Times.{time_text}
use Rattle.item_text.specs.Props.{with_prop}
use Rattle.item_text.specs.declared.item.Item.{Item}
use Rattle.item_text.specs.declared.item.Prop.{Prop}
use Rattle.local_store.specs.declared.change.Change.{Change}
use Rattle.local_store.specs.declared.content.Content.{Content}
use Rattle.local_store.specs.declared.content.Content.TheVariants.{Plain, Sealed as SealedContent}
use Rattle.local_store.specs.declared.row.Row.{Row}
use Rattle.local_store.specs.Rows.{item_of, has_kind}
use Rattle.local_changes.specs.declared.store_err.StoreErr.{StoreErr}
use Rattle.local_changes.specs.declared.store_err.StoreErr.TheVariants.{NotFound, Sealed, TimeEnd}
use Rattle.local_changes.specs.Answers.{IsDueOrMemory}
use Rattle.local_changes.specs.Lookup.{note_kind}
use Rattle.local_changes.specs.Saving.{saved_within}

-- ---- the new item

-- the new title if one is given, and else the old one, which is empty if there is none
abbrev pub title_after : Option (List ℕ) → Option (List ℕ) → List ℕ
title_after old None = unwrap_or old []
title_after old (Some title) = title

-- a key with a time
abbrev pub time_prop : List ℕ → ℕ → Prop
time_prop key time = record { key = key; value = time_text time }

-- changed at this time, for the program and for the user
abbrev pub stamped : ℕ → Item → Item
stamped time item = record item {
  props = with_prop (time_prop (codes "user_updated_time") time)
      (with_prop (time_prop (codes "updated_time") time) item.props);
}

-- with another title and body, changed at this time
abbrev pub edited_item : Item → Option (List ℕ) → List ℕ → ℕ → Item
edited_item item title body time = stamped time (record {
  title = Some (title_after item.title title);
  body = body;
  props = item.props;
})

-- ---- the change

-- the readable item
abbrev pub plain_item : List ℕ → Content → Result Item StoreErr
plain_item id (Plain item) = Ok item
plain_item id (SealedContent item) = Err (Sealed id)

-- the readable item of a row that is a note
abbrev pub plain_note : List ℕ → Option Row → Result Item StoreErr
plain_note id None = Err (NotFound id)
plain_note id (Some r) =
    if has_kind note_kind (item_of r.content) then plain_item id r.content else Err (NotFound id)

-- the readable item is lent, or the refusal is this one
abbrev pub IsPlainNote : Result Item StoreErr → Result (Bor Item) StoreErr → Type 0
IsPlainNote due (Ok item) = due ≡ Ok item.now
IsPlainNote due (Err e) = due ≡ Err e

-- The item is saved with another title and body, unless it was last changed at the end of time. It counts as changed
-- now, or a millisecond after its last change if that is later.
abbrev pub edited_note : List ℕ → Option (List ℕ) → List ℕ → ℕ → ℕ → Item → Result Change StoreErr
edited_note id title body now last item =
    if nat_eq last last_time then Err (TimeEnd id)
    else saved_within id (edited_item item title body (max now (last + 1)))

-- the answer is that for a note which was last changed at its own time, or else the refusal
abbrev pub Edits : List ℕ → Option (List ℕ) → List ℕ → ℕ → Result Item StoreErr
    → Result Change StoreErr → Type 0
Edits id title body now (Err e) result = IsDueOrMemory (Err e) result
Edits id title body now (Ok item) result =
    (last : ℕ) × IsUpdated item.props last
    × IsDueOrMemory (edited_note id title body now last item) result
