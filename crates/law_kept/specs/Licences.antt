-- What a client may do about an item, by what it knows itself.
use Rattle.std.specs.Prelude.{ℕ, List, [], ◌∷◌, Bool, true, false, not, ◌&&◌, ◌||◌, bytes_eq, is_some, Option, Some, None}
use Rattle.item_text.specs.Props.{is_text}
use Rattle.item_text.specs.declared.item.Item.{Item}
use Rattle.local_store.specs.declared.content.Content.{Content}
use Rattle.local_store.specs.declared.content.Content.TheVariants.{Plain, Sealed}
use Rattle.law_kept.specs.Acts.{ItemChange, Saved, Uploaded, Taken, Conflict, Gone, Opened, Act, Begins, Gets, Puts, Deletes, Changes, Ends, Elsewhere}
use Rattle.law_licences.specs.Copies.{must_copy}
use Rattle.law_licences.specs.Items.{is_plain_note}
use Rattle.law_kept.specs.Own.{OwnRow, Read, ReadNothing, Wrote, OwnSession, Out, In, Own, row_base, own_after}

-- ---- rows

-- there is a row that is to be uploaded
abbrev pub is_waiting : Option OwnRow → Bool
is_waiting None = false
is_waiting (Some row) = row.pending

-- there is no row, or none that is to be uploaded
abbrev pub is_idle : Option OwnRow → Bool
is_idle row = not (is_waiting row)

abbrev pub holds_sealed : Content → Bool
holds_sealed (Plain item) = false
holds_sealed (Sealed item) = true

abbrev pub is_sealed_row : Option OwnRow → Bool
is_sealed_row None = false
is_sealed_row (Some row) = holds_sealed row.content

-- a row that goes with its file is copied if it holds a note that is readable
abbrev pub is_copied : Option OwnRow → Option ℕ → Bool
is_copied None copied = true
is_copied (Some row) copied = is_some copied || not (is_plain_note row.content)

-- a row that gives way to a remote content is copied if it must be
abbrev pub is_copied_from : Option OwnRow → Content → Option ℕ → Bool
is_copied_from None remote copied = true
is_copied_from (Some row) remote copied = is_some copied || not (must_copy row.content remote)

-- ---- the check: the session's last call on the item's file

-- it showed these bytes
abbrev pub has_read : OwnSession → List ℕ → Bool
has_read (In (Read found)) bytes = bytes_eq found bytes
has_read session bytes = false

-- it showed what the row's base is
abbrev pub has_read_base : OwnSession → Option OwnRow → Bool
has_read_base (In (Read found)) row = is_text found (row_base row)
has_read_base session row = false

-- it found no file
abbrev pub has_read_nothing : OwnSession → Bool
has_read_nothing (In ReadNothing) = true
has_read_nothing session = false

-- it put these bytes, and they landed
abbrev pub has_written : OwnSession → List ℕ → Bool
has_written (In (Wrote written)) bytes = bytes_eq written bytes
has_written session bytes = false

abbrev pub is_outside : OwnSession → Bool
is_outside Out = true
is_outside (In check) = false

-- ---- licences

-- The check showed these bytes, and they are a text of the item. `reads` says which item bytes are.
abbrev pub has_read_item : (List ℕ → Option Item) → OwnSession → List ℕ → Bool
has_read_item reads session bytes = has_read session bytes && is_some (reads bytes)

-- whether a client may make the change; of the others nothing is asked
abbrev pub may_change : (List ℕ → Option Item) → Own → ItemChange → Bool
may_change reads o (Saved item) = is_outside o.session
may_change reads o (Uploaded bytes) = has_written o.session bytes
may_change reads o (Taken bytes content) = is_idle o.row && has_read_item reads o.session bytes
may_change reads o (Conflict (Some remote) copied) =
    is_waiting o.row
    && (has_read_item reads o.session remote.0 && is_copied_from o.row remote.1 copied)
may_change reads o (Conflict None copied) = is_waiting o.row && is_copied o.row copied
may_change reads o Gone = is_idle o.row
may_change reads o (Opened item) = is_sealed_row o.row
may_change reads o change = true

-- whether a client may do so
abbrev pub may_act : (List ℕ → Option Item) → Own → Act → Bool
may_act reads o (Puts bytes landed heard) =
    is_waiting o.row && (has_read_base o.session o.row || has_read_nothing o.session)
may_act reads o (Deletes landed) = o.deleted
may_act reads o (Changes change) = may_change reads o change
may_act reads o Begins = true
may_act reads o (Gets answer) = true
may_act reads o Ends = true
may_act reads o Elsewhere = true

-- whether a client may do all of this, one after the other
unfoldable pub obeys : (List ℕ → Option Item) → Own → List Act → Bool
obeys reads o [] = true
obeys reads o (x ∷ xs) = may_act reads o x && obeys reads (own_after o x) xs
