-- Which item each row, each conflict note and the file stand for, as one sees it who sees all clients and the store.
use Rattle.std.specs.Prelude.{ℕ, List, [], ◌∷◌, ◌==◌, Bool, true, false, bytes_eq, if◌then◌else◌, take, Option, Some, None}
use Rattle.item_text.specs.declared.item.Item.{Item}
use Rattle.law_kept.specs.Acts.{ItemChange, Conflict, Moved, Cleared, RowStep, Stays, Saves, Sends, Reads, Meets, Unseals, Goes, row_step, Act, Begins, Gets, Puts, Deletes, Changes, FileStep, Version, FileHistory}
use Rattle.law_kept.specs.Own.{Own, new_own, own_after}

-- a conflict note of the item, and the item that it stands for
pub record Copy : Type 0 where
  pub number : ℕ
  pub item : Item

-- what a client's row, its conflict notes and the file that it got last stand for
pub record Standing : Type 0 where
  pub row : Option Item
  pub got : Option Item
  pub copies : List Copy
  -- whether another client's put of the file landed since the last get, or since the session began
  pub crossed : Bool

-- a client: what it knows itself, and what that stands for
pub record Client : Type 0 where
  pub own : Own
  pub stands : Standing

pub record World : Type 0 where
  pub file : Option Version
  pub at : List ℕ → Client

abbrev pub new_desk : Client
new_desk = record {
  own = new_own;
  stands = record { row = None; got = None; copies = []; crossed = false };
}

-- no client has anything yet
abbrev pub opening_world : Option Version → World
opening_world file = record { file = file; at = λ client. new_desk }

-- ---- the file

abbrev pub file_item : Option Version → Option Item
file_item None = None
file_item (Some version) = version.item

-- a file stands for what its writer's row stood for
abbrev pub version_put : Option Item → List ℕ → Version
version_put stood bytes = record { bytes = bytes; item = stood }

abbrev pub file_after : Option Item → Option Version → Act → Option Version
file_after stood file (Puts bytes true heard) = Some (version_put stood bytes)
file_after stood file (Deletes true) = None
file_after stood file act = file

-- ---- the client that does it

-- what the row stood for joins the conflict notes
abbrev pub copies_noted : ℕ → Option Item → List Copy → List Copy
copies_noted number None copies = copies
copies_noted number (Some item) copies = record { number = number; item = item } ∷ copies

abbrev pub copies_noted_if : Option ℕ → Option Item → List Copy → List Copy
copies_noted_if None stood copies = copies
copies_noted_if (Some number) stood copies = copies_noted number stood copies

-- without each conflict note of this number
unfoldable pub without_number : ℕ → List Copy → List Copy
without_number number [] = []
without_number number (copy ∷ copies) =
    if copy.number == number then without_number number copies
    else copy ∷ without_number number copies

-- what the row stands for then; a row that is what was read stands for the file that was got
abbrev pub stood_stepped : Standing → RowStep → Option Item
stood_stepped s Stays = s.row
stood_stepped s (Saves item) = Some item
stood_stepped s (Sends bytes) = s.row
stood_stepped s (Reads bytes content) = s.got
stood_stepped s (Meets remote) = s.got
stood_stepped s (Unseals item) = s.row
stood_stepped s Goes = None

-- and after a change
abbrev pub stood_changed : Standing → ItemChange → Option Item
stood_changed s change = stood_stepped s (row_step change)

abbrev pub copies_changed : Standing → ItemChange → List Copy
copies_changed s (Conflict remote copied) = copies_noted_if copied s.row s.copies
copies_changed s (Moved number) = copies_noted number s.row s.copies
copies_changed s (Cleared number) = without_number number s.copies
copies_changed s change = s.copies

abbrev pub stands_changed : Standing → ItemChange → Standing
stands_changed s change =
    record s { row = stood_changed s change; copies = copies_changed s change }

abbrev pub stands_after : Option Version → Standing → Act → Standing
stands_after file s Begins = record s { crossed = false }
stands_after file s (Gets answer) = record s { got = file_item file; crossed = false }
stands_after file s (Changes change) = stands_changed s change
stands_after file s act = s

abbrev pub desk_after : Option Version → Client → Act → Client
desk_after file d act =
    record { own = own_after d.own act; stands = stands_after file d.stands act }

-- ---- the others

-- a put that lands crosses their checks
abbrev pub crossed_beside : Bool → Act → Bool
crossed_beside crossed (Puts bytes true heard) = true
crossed_beside crossed act = crossed

abbrev pub stands_beside : Standing → Act → Standing
stands_beside s act = record s { crossed = crossed_beside s.crossed act }

abbrev pub desk_beside : Client → Act → Client
desk_beside d act = record d { stands = stands_beside d.stands act }

-- ---- all

abbrev pub happened : World → FileStep → World
happened w s = record {
  file = file_after (w.at s.client).stands.row w.file s.act;
  at = λ client.
      if bytes_eq s.client client then desk_after w.file (w.at client) s.act
      else desk_beside (w.at client) s.act;
}

unfoldable pub world_from : World → List FileStep → World
world_from w [] = w
world_from w (s ∷ ss) = world_from (happened w s) ss

-- what stands for what when this place, counted from 0, is reached
abbrev pub world_at : FileHistory → ℕ → World
world_at h place = world_from (opening_world h.opening) (take place h.steps)

abbrev pub world_end : FileHistory → World
world_end h = world_from (opening_world h.opening) h.steps
