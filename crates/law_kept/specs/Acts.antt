-- A history of one item: what all clients do about it, in order.
use Rattle.std.specs.Prelude.{ℕ, List, Bool, true, false, Option, Some, None}
use Rattle.item_text.specs.declared.item.Item.{Item}
use Rattle.local_store.specs.declared.content.Content.{Content}

-- A change of the item's row in a client's tables, or of its conflict notes. Where the row's own item becomes a
-- conflict note, the change has the number of that note.
pub data ItemChange : Type 0 where
  Saved : (item : Item) → ItemChange
  Removed : ItemChange
  Uploaded : (bytes : List ℕ) → ItemChange
  Dropped : ItemChange
  Taken : (bytes : List ℕ) (content : Content) → ItemChange
  Conflict : (remote : Option (List ℕ × Content)) (copied : Option ℕ) → ItemChange
  Moved : (number : ℕ) → ItemChange
  Gone : ItemChange
  Opened : (item : Item) → ItemChange
  Cleared : (number : ℕ) → ItemChange

-- what becomes of the item's row
pub data RowStep : Type 0 where
  Stays : RowStep
  -- it holds what the user saved
  Saves : (item : Item) → RowStep
  -- its file holds these bytes by its own put
  Sends : (bytes : List ℕ) → RowStep
  -- it is what was read, also where there was none
  Reads : (bytes : List ℕ) (content : Content) → RowStep
  -- it is what was read, if there was one
  Meets : (remote : List ℕ × Content) → RowStep
  Unseals : (item : Item) → RowStep
  Goes : RowStep

abbrev pub row_step : ItemChange → RowStep
row_step (Saved item) = Saves item
row_step Removed = Goes
row_step (Uploaded bytes) = Sends bytes
row_step Dropped = Stays
row_step (Taken bytes content) = Reads bytes content
row_step (Conflict (Some remote) copied) = Meets remote
row_step (Conflict None copied) = Goes
row_step (Moved number) = Goes
row_step Gone = Goes
row_step (Opened item) = Unseals item
row_step (Cleared number) = Stays

-- whether the user makes it, and so lets go what the row held
abbrev pub is_users : ItemChange → Bool
is_users (Saved item) = true
is_users Removed = true
is_users change = false

-- what a client hears when it gets the item's file
pub data Answer : Type 0 where
  Shown : (bytes : List ℕ) → Answer
  Missing : Answer
  -- the file is too large, or the call failed, or nothing was heard
  Unknown : Answer

-- what a client does
pub data Act : Type 0 where
  Begins : Act
  Gets : (answer : Answer) → Act
  -- it puts the item's file; whether that landed, and whether the client heard so
  Puts : (bytes : List ℕ) (landed heard : Bool) → Act
  -- it deletes the item's file; whether that landed
  Deletes : (landed : Bool) → Act
  Changes : (change : ItemChange) → Act
  -- its session ends, or its program is stopped
  Ends : Act
  -- anything that isn't about the item
  Elsewhere : Act

pub record FileStep : Type 0 where
  pub client : List ℕ
  pub act : Act

-- The item's file: its bytes, and the item that it stands for. That is the one which its writer's row stood for, also
-- if the bytes are sealed. Only a file that was there at first, and reads as no item of its id, stands for none.
pub record Version : Type 0 where
  pub bytes : List ℕ
  pub item : Option Item

-- the file at first, if there was one, and all that happened since
pub record FileHistory : Type 0 where
  pub opening : Option Version
  pub steps : List FileStep
