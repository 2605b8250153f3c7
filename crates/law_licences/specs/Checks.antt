-- What a session has heard of an item's file, and what that is to the item's row.
use Rattle.std.specs.Prelude.{ℕ, ◌≡◌, List, [], ◌∷◌, Bool, true, false, bytes_eq, if◌then◌else◌, Option, Some, None}
use Rattle.jop_base.specs.declared.path.Path.{Path}
use Rattle.jop_base.specs.declared.path.Path.TheVariants.{Item}
use Rattle.jop_target.specs.declared.call.Call.{Call}
use Rattle.jop_target.specs.declared.call.Call.TheVariants.{Get, Put, Delete}
use Rattle.jop_target.specs.declared.reply.Reply.{Reply}
use Rattle.jop_target.specs.declared.reply.Reply.TheVariants.{Got, Absent}
use Rattle.local_store.specs.Tables.{row_at}
use Rattle.local_store.specs.declared.content.Content.{Content}
use Rattle.local_store.specs.declared.row.Row.{Row}
use Rattle.law_licences.specs.Items.{remote_in}
use Rattle.law_licences.specs.Sealing.{Sealing}
use Rattle.law_licences.specs.Views.{Heard, View}

-- ---- the check

-- the item's file
abbrev pub is_file_of : List ℕ → Path → Bool
is_file_of id (Item other) = bytes_eq other id
is_file_of id path = false

-- a call on the item's file
abbrev pub is_on : List ℕ → Call → Bool
is_on id (Get path) = is_file_of id path
is_on id (Put path content) = is_file_of id path
is_on id (Delete path) = is_file_of id path
is_on id call = false

-- the last of these calls on the item's file, failed and unheard ones too
unfoldable pub last_on : List ℕ → List Heard → Option Heard
last_on id [] = None
last_on id (h ∷ hs) = if is_on id h.call then Some h else last_on id hs

-- the session's last call on the item's file was a get, which has this reply
abbrev pub WasGot : View → List ℕ → Reply → Type 0
WasGot v id reply =
    last_on id v.calls ≡ Some (record { call = Get (Item id); reply = Some reply })

-- ---- rows

abbrev pub is_pending : Option Row → Bool
is_pending None = false
is_pending (Some r) = r.pending

-- this is the row of the id, and it waits to be uploaded
pub record IsPending (v : View) (id : List ℕ) (row : Row) : Type 0 where
  pub at : row_at v.tables id ≡ Some row
  pub pending : row.pending ≡ true

-- ---- what the check gave

-- the file is as the client left it
abbrev pub IsBase : Option (List ℕ) → Reply → Type 0
IsBase (Some base) (Got now bytes) = bytes ≡ base
IsBase None (Absent now) = Unit {0}
IsBase base reply = ⊥

-- The file is another one than the client left, and holds this item of the id, as these keys open it;
-- or it is gone.
abbrev pub IsOther : Sealing → List ℕ → Option (List ℕ) → Reply → Option (List ℕ × Content)
    → Type 0
IsOther s id base (Got now bytes) (Some remote) =
    (¬ (base ≡ Some bytes)) × (remote_in s id bytes ≡ Some remote)
IsOther s id (Some base) (Absent now) None = Unit {0}
IsOther s id base reply remote = ⊥
