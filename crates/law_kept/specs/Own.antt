-- What one client knows of an item by its own calls and changes.
use Rattle.std.specs.Prelude.{ℕ, List, [], ◌∷◌, Bool, true, false, bytes_eq, if◌then◌else◌, is_some, ◌||◌, Option, Some, None}
use Rattle.item_text.specs.declared.item.Item.{Item}
use Rattle.local_store.specs.declared.content.Content.{Content}
use Rattle.local_store.specs.declared.content.Content.TheVariants.{Plain}
use Rattle.law_kept.specs.Acts.{ItemChange, Removed, Dropped, RowStep, Stays, Saves, Sends, Reads, Meets, Unseals, Goes, row_step, Answer, Shown, Missing, Unknown, Act, Begins, Gets, Puts, Deletes, Changes, Ends, Elsewhere, FileStep}

-- the row of its tables
pub record OwnRow : Type 0 where
  pub content : Content
  -- what the file held when this client last read or wrote it
  pub base : Option (List ℕ)
  -- whether it was saved here and isn't uploaded yet
  pub pending : Bool

-- the last call of a session on the item's file, and what came of it
pub data Check : Type 0 where
  Unchecked : Check
  -- a get, which showed these bytes
  Read : (bytes : List ℕ) → Check
  -- a get, which found no file
  ReadNothing : Check
  -- a put of these bytes, which the client heard to have landed
  Wrote : (bytes : List ℕ) → Check

pub data OwnSession : Type 0 where
  Out : OwnSession
  In : (check : Check) → OwnSession

pub record Own : Type 0 where
  pub row : Option OwnRow
  -- whether the item stands in the deletions
  pub deleted : Bool
  pub session : OwnSession

abbrev pub new_own : Own
new_own = record { row = None; deleted = false; session = Out }

-- ---- changes

abbrev pub row_base : Option OwnRow → Option (List ℕ)
row_base None = None
row_base (Some row) = row.base

abbrev pub has_base : Option OwnRow → Bool
has_base row = is_some (row_base row)

-- saved again, the row knows what its file held as before
abbrev pub row_saved : Item → Option OwnRow → Option OwnRow
row_saved item row = Some (record { content = Plain item; base = row_base row; pending = true })

abbrev pub row_sent : List ℕ → Option OwnRow → Option OwnRow
row_sent bytes None = None
row_sent bytes (Some row) = Some (record row { base = Some bytes; pending = false })

-- the row that holds what was read
abbrev pub row_read : List ℕ → Content → Option OwnRow
row_read bytes content = Some (record { content = content; base = Some bytes; pending = false })

-- a row that isn't there gives way to nothing
abbrev pub met : List ℕ × Content → Option OwnRow → Option OwnRow
met remote None = None
met remote (Some row) = row_read remote.0 remote.1

abbrev pub row_unsealed : Item → Option OwnRow → Option OwnRow
row_unsealed item None = None
row_unsealed item (Some row) = Some (record row { content = Plain item })

abbrev pub row_stepped : Option OwnRow → RowStep → Option OwnRow
row_stepped row Stays = row
row_stepped row (Saves item) = row_saved item row
row_stepped row (Sends bytes) = row_sent bytes row
row_stepped row (Reads bytes content) = row_read bytes content
row_stepped row (Meets remote) = met remote row
row_stepped row (Unseals item) = row_unsealed item row
row_stepped row Goes = None

-- the row after a change
abbrev pub row_changed : Option OwnRow → ItemChange → Option OwnRow
row_changed row change = row_stepped row (row_step change)

-- whether the item stands in the deletions then
abbrev pub deleted_changed : Option OwnRow → Bool → ItemChange → Bool
deleted_changed row deleted Removed = has_base row || deleted
deleted_changed row deleted Dropped = false
deleted_changed row deleted change = deleted

abbrev pub own_changed : Own → ItemChange → Own
own_changed o change = record o {
  row = row_changed o.row change;
  deleted = deleted_changed o.row o.deleted change;
}

-- ---- calls

abbrev pub check_of : Answer → Check
check_of (Shown bytes) = Read bytes
check_of Missing = ReadNothing
check_of Unknown = Unchecked

-- outside sessions no call counts
abbrev pub session_checked : OwnSession → Check → OwnSession
session_checked Out check = Out
session_checked (In old) check = In check

-- a put that wasn't heard to have landed leaves the client without a check
abbrev pub check_put : List ℕ → Bool → Check
check_put bytes true = Wrote bytes
check_put bytes false = Unchecked

abbrev pub own_after : Own → Act → Own
own_after o Begins = record o { session = In Unchecked }
own_after o (Gets answer) = record o { session = session_checked o.session (check_of answer) }
own_after o (Puts bytes landed heard) =
    record o { session = session_checked o.session (check_put bytes heard) }
own_after o (Deletes landed) = record o { session = session_checked o.session Unchecked }
own_after o (Changes change) = own_changed o change
own_after o Ends = record o { session = Out }
own_after o Elsewhere = o

-- ---- parts

-- all that one client does, in order
unfoldable pub acts_by : List ℕ → List FileStep → List Act
acts_by client [] = []
acts_by client (s ∷ ss) =
    if bytes_eq s.client client then s.act ∷ acts_by client ss else acts_by client ss

-- what a client knows after its part
unfoldable pub own_from : Own → List Act → Own
own_from o [] = o
own_from o (x ∷ xs) = own_from (own_after o x) xs
