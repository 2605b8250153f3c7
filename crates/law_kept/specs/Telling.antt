-- What a history of a store, told with the changes of all clients' tables, is for one item.
use Rattle.std.specs.Prelude.{◌≡◌, ℕ, List, [], ◌∷◌, Bool, true, false, bytes_eq, if◌then◌else◌, option_map, Option, Some, None}
use Rattle.jop_base.specs.Id.{IsIdText}
use Rattle.jop_base.specs.declared.path.Path.TheVariants.{Item as ItemFile}
use Rattle.jop_target.specs.History.{IsHonest, tree_at}
use Rattle.jop_target.specs.History as target
use Rattle.jop_target.specs.Store.{file_at}
use Rattle.jop_target.specs.declared.call.Call.{Call}
use Rattle.jop_target.specs.declared.call.Call.TheVariants.{Get, Put, Delete}
use Rattle.jop_target.specs.declared.reply.Reply.{Reply}
use Rattle.jop_target.specs.declared.reply.Reply.TheVariants.{Got, Absent, Done, Failed}
use Rattle.jop_target.specs.declared.tree.Content.{Content}
use Rattle.jop_target.specs.declared.tree.Content.TheVariants.{Whole, Sized}
use Rattle.jop_target.specs.declared.tree.File.{File}
use Rattle.local_store.specs.Changing.{after}
use Rattle.local_store.specs.Tables.{new_tables}
use Rattle.local_store.specs.Tale.{Tale, TaleStep, plain}
use Rattle.local_store.specs.declared.change.Change.{Change}
use Rattle.local_store.specs.declared.change.Change.TheVariants as tables
use Rattle.local_store.specs.declared.tables.Tables.{Tables}
use Rattle.law_kept.specs.Acts.{ItemChange, Saved, Removed, Uploaded, Dropped, Taken, Conflict, Moved, Gone, Opened, Cleared, Answer, Shown, Missing, Unknown, Act, Begins, Gets, Puts, Deletes, Changes, Ends, Elsewhere, FileStep, Version, FileHistory}
use Rattle.law_kept.specs.Fair.{AllObey, file_bytes}
use Rattle.law_kept.specs.Gap.{NoOtherUploadBetween}
use Rattle.law_licences.specs.Checks.{is_file_of}
use Rattle.law_licences.specs.Items.{item_of_file}
use Rattle.law_kept.specs.Standing.{world_at}

-- ---- the file

-- the bytes of a file; of a blob none are told
abbrev pub content_bytes : Content → List ℕ
content_bytes (Whole bytes) = bytes
content_bytes (Sized len) = []

-- the bytes of the item's file, if it is there
abbrev pub bytes_at : List ℕ → List File → Option (List ℕ)
bytes_at id files = option_map (λ file. content_bytes file.content) (file_at files (ItemFile id))

-- at first the bytes of a file stand for the item that they read to
abbrev pub opening_version : List ℕ → List ℕ → Version
opening_version id bytes = record { bytes = bytes; item = item_of_file id bytes }

-- ---- calls

abbrev pub answer_told : Reply → Answer
answer_told (Got now bytes) = Shown bytes
answer_told (Absent now) = Missing
answer_told reply = Unknown

abbrev pub was_done : Reply → Bool
was_done (Done now) = true
was_done reply = false

-- a call, its reply, and whether it landed
abbrev pub called : List ℕ → Call → Reply → Bool → Act
called id (Get path) reply landed =
    if is_file_of id path then Gets (answer_told reply) else Elsewhere
called id (Put path bytes) reply landed =
    if is_file_of id path then Puts bytes landed (was_done reply) else Elsewhere
called id (Delete path) reply landed = if is_file_of id path then Deletes landed else Elsewhere
called id call reply landed = Elsewhere

-- ---- changes

-- what the client does about the item by a change of it, or by one that isn't
abbrev pub change_act : Option ItemChange → Act
change_act None = Elsewhere
change_act (Some change) = Changes change

abbrev pub if_its : List ℕ → List ℕ → ItemChange → Option ItemChange
if_its id other change = if bytes_eq other id then Some change else None

-- the number of the conflict note, if there is to be one
abbrev pub number_if : Bool → ℕ → Option ℕ
number_if copies number = if copies then Some number else None

-- what a change of a client's tables is for the item, where the next conflict note has this number; the others aren't
-- about an item
abbrev pub item_change : List ℕ → ℕ → Change → Option ItemChange
item_change id next (tables.Saved other item) = if_its id other (Saved item)
item_change id next (tables.Removed other) = if_its id other Removed
item_change id next (tables.Uploaded other bytes) = if_its id other (Uploaded bytes)
item_change id next (tables.Dropped other) = if_its id other Dropped
item_change id next (tables.Taken other bytes content) = if_its id other (Taken bytes content)
item_change id next (tables.Conflict other remote copies) =
    if_its id other (Conflict remote (number_if copies next))
item_change id next (tables.Moved other) = if_its id other (Moved next)
item_change id next (tables.Gone other) = if_its id other Gone
item_change id next (tables.Opened other item) = if_its id other (Opened item)
item_change id next (tables.Cleared number) = Some (Cleared number)
item_change id next change = None

abbrev pub change_told : List ℕ → ℕ → Change → Act
change_told id next change = change_act (item_change id next change)

-- ---- steps

-- what happens at the target, with the change that is made there, if one is made
abbrev pub act_of : List ℕ → ℕ → target.Happening → Option Change → Act
act_of id next target.Begins change = Begins
act_of id next (target.Answered call reply landed) change = called id call reply landed
act_of id next (target.Unheard call landed) change = called id call Failed landed
act_of id next (target.Changed number) None = Elsewhere
act_of id next (target.Changed number) (Some change) = change_told id next change
act_of id next target.Ends change = Ends
act_of id next target.Stopped change = Ends

abbrev pub step_of : List ℕ → ℕ → TaleStep → FileStep
step_of id next s =
    record { client = s.step.client; act = act_of id next s.step.happens s.change }

abbrev pub tables_told : Tables → Option Change → Tables
tables_told t None = t
tables_told t (Some change) = after t change

-- the tables of all clients after a step
abbrev pub tables_after : (List ℕ → Tables) → TaleStep → List ℕ → Tables
tables_after at s client =
    if bytes_eq s.step.client client then tables_told (at client) s.change else at client

unfoldable pub steps_told : List ℕ → (List ℕ → Tables) → List TaleStep → List FileStep
steps_told id at [] = []
steps_told id at (s ∷ ss) =
    step_of id (at s.step.client).next_conflict s ∷ steps_told id (tables_after at s) ss

-- each client begins with new tables
abbrev pub steps_of : List ℕ → Tale → List FileStep
steps_of id tale = steps_told id (λ client. new_tables) tale.steps

-- what the tale is for the item of this id
abbrev pub history_of : List ℕ → Tale → FileHistory
history_of id tale = record {
  opening = option_map (opening_version id) (bytes_at id tale.opening.files);
  steps = steps_of id tale;
}

-- ---- premises

-- The store tells the truth, each client does with the item what it may, by its own calls and changes, and no other
-- client's put of the item lands between a check and the put that follows it.
pub record IsFairFor (id : List ℕ) (tale : Tale) : Type 0 where
  pub honest : IsHonest (plain tale)
  pub text : IsIdText id
  pub obey : AllObey (item_of_file id) (steps_of id tale)
  pub gapless : NoOtherUploadBetween (steps_of id tale)

-- ---- the file is the tree's

-- at each place the file that the item's history speaks of is the one in the tree
abbrev pub IsTreesFile : List ℕ → Tale → Type 0
IsTreesFile id tale =
    (place : ℕ) → file_bytes (world_at (history_of id tale) place).file
    ≡ bytes_at id (tree_at (plain tale) place).files
