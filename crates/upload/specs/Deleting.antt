-- The files of items that were removed here are deleted.
use Rattle.std.specs.Prelude.{◌≡◌, List, ◌∷◌, Bool, Some, true, false}
use Rattle.jop_base.specs.declared.path.Path.{Path}
use Rattle.jop_base.specs.declared.path.Path.TheVariants.{Item, Blob}
use Rattle.jop_target.specs.declared.call.Call.{Call}
use Rattle.jop_target.specs.declared.call.Call.TheVariants.{Delete}
use Rattle.jop_target.specs.declared.reply.Reply.{Reply}
use Rattle.law_licences.specs.Deletions.{IsDeleted}
use Rattle.local_store.specs.Tables.{deletion_at}
use Rattle.local_store.specs.declared.change.Change.TheVariants.{Dropped}
use Rattle.local_store.specs.declared.deletion.Deletion.{Deletion}
use Rattle.session.specs.Parts.{Changes, ForEach, Hears, Nothing, Part, Then}
use Rattle.session.specs.Sessions.{MayAsk, is_data}
use Rattle.session.specs.Work.{IsAtWork, WorkNow}

-- a delete of an item or of the bytes of a resource
abbrev pub is_deletion : Call → Bool
is_deletion (Delete path) = is_data path
is_deletion call = false

-- the file is deleted, or wasn't there
abbrev pub DeletesFile : Path → Part
DeletesFile path v ds = (reply : Reply) × IsDeleted reply × Hears (Delete path) reply v ds

-- and the bytes of a resource
abbrev pub DeletesBytes : Deletion → Bool → Part
DeletesBytes d true = DeletesFile (Blob d.id)
DeletesBytes d false = Nothing

-- a deletion is done, and then dropped
abbrev pub DeletesOne : Deletion → Part
DeletesOne d =
    Then (DeletesFile (Item d.id)) (Then (DeletesBytes d d.resource) (Changes (Dropped d.id)))

-- all deletions, in the order of their ids
abbrev pub Deletes : Part
Deletes v ds = ForEach DeletesOne v.tables.deletions v ds

-- ---- what is asked of a session

-- it is at work, and may delete the file, which is that of an item or the bytes of a resource
pub record MayDeleteFile (path : Path) (w : WorkNow) : Type 0 where
  pub ready : IsAtWork w
  pub sort : is_data path ≡ true
  pub may : MayAsk w (Delete path)

-- it is at work, and the deletion is among those of its client
pub record HasDeletion (d : Deletion) (w : WorkNow) : Type 0 where
  pub ready : IsAtWork w
  pub at : deletion_at w.site.tables d.id ≡ Some d

-- it is at work, and the deletion is the first of its client
pub record BeginsWithDeletion (d : Deletion) (w : WorkNow) : Type 0 where
  pub ready : IsAtWork w
  pub rest : List Deletion
  pub first : w.site.tables.deletions ≡ d ∷ rest

-- it is at work, and these deletions are all of its client
pub record HasDeletions (ds : List Deletion) (w : WorkNow) : Type 0 where
  pub ready : IsAtWork w
  pub all : w.site.tables.deletions ≡ ds
