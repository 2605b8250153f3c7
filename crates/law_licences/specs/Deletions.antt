-- The licences of deletions.
use Rattle.std.specs.Prelude.{ℕ, ◌≡◌, ◌⊎◌, List, [], ◌∷◌, true, Some}
use Rattle.jop_base.specs.declared.path.Path.{Path}
use Rattle.jop_base.specs.declared.path.Path.TheVariants.{Item, Blob}
use Rattle.jop_target.specs.declared.call.Call.TheVariants.{Delete}
use Rattle.jop_target.specs.declared.reply.Reply.{Reply}
use Rattle.jop_target.specs.declared.reply.Reply.TheVariants.{Absent, Done}
use Rattle.local_store.specs.Tables.{deletion_at}
use Rattle.local_store.specs.declared.deletion.Deletion.{Deletion}
use Rattle.law_licences.specs.Views.{Heard, View}

-- an item's file is deleted that stands in the deletions
pub record MayDelete (v : View) (id : List ℕ) : Type 0 where
  pub deletion : Deletion
  pub at : deletion_at v.tables id ≡ Some deletion

-- and its bytes are, if it stands there as a resource
pub record MayDeleteBlob (v : View) (id : List ℕ) : Type 0 where
  pub deletion : Deletion
  pub at : deletion_at v.tables id ≡ Some deletion
  pub resource : deletion.resource ≡ true

-- the file was there and is deleted, or wasn't there
abbrev pub IsDeleted : Reply → Type 0
IsDeleted (Done now) = Unit {0}
IsDeleted (Absent now) = Unit {0}
IsDeleted reply = ⊥

-- the call was a delete of this file, which was done
pub record IsDeletion (path : Path) (h : Heard) : Type 0 where
  pub reply : Reply
  pub done : IsDeleted reply
  pub is : h ≡ record { call = Delete path; reply = Some reply }

-- one of these calls was such a delete
unfoldable pub WasDeleted : Path → List Heard → Type 0
WasDeleted path [] = ⊥
WasDeleted path (h ∷ hs) = IsDeletion path h ⊎ WasDeleted path hs

-- a deletion is done once this session has deleted the file, and the bytes of a resource
pub record MayDrop (v : View) (id : List ℕ) : Type 0 where
  pub deletion : Deletion
  pub at : deletion_at v.tables id ≡ Some deletion
  pub file : WasDeleted (Item id) v.calls
  pub blob : deletion.resource ≡ true → WasDeleted (Blob id) v.calls
