-- All that a client did in a session, told by its calls and changes.
use Rattle.std.specs.Prelude.{◌≡◌, List, ◌++◌, length, map, option_map}
use Rattle.client.specs.Sites.{SiteNow}
use Rattle.conflicts.specs.declared.refusal.Refusal.{Refusal}
use Rattle.download.specs.Emptied.{HeedsEmptied}
use Rattle.law_licences.specs.Deeds.{Deed, changes_in, deeds_of, events_of}
use Rattle.law_licences.specs.Licences.{AreWork, MergesInfo, ObeysData}
use Rattle.law_licences.specs.Views.{View}
use Rattle.keeper.specs.declared.blob.Blob.{Blob}
use Rattle.session.specs.Saving.{Told, blobs_got, kept_after_saves, tale_of}

-- A client has gone on by these deeds, which its trail and its changes tell. Each call and each
-- change has its licence, by what one saw of the client before them, and so has each put of the
-- info. The changes are kept, if the keeper tells, and the bytes of resources that were saved: by
-- their ids and lengths those that were got, in that order, but for the last ones, which a session
-- that broke off still owed. Behind what looks like an emptied target nothing was done but about
-- locks, and this refusal is given for it.
pub record Tells (Given : Refusal → Type 0) (v : View) (old new : SiteNow) : Type 0 where
  pub deeds : List Deed
  pub saves : List Blob
  pub owed : List Told
  pub trail : new.line.trail ≡ old.line.trail ++ events_of (length old.made) deeds
  pub made : new.made ≡ old.made ++ changes_in deeds
  pub kept : new.keeper.kept
      ≡ option_map (kept_after_saves (changes_in deeds) saves) old.keeper.kept
  pub got : blobs_got deeds ≡ map tale_of saves ++ owed
  pub told : deeds_of (events_of (length old.made) deeds) (changes_in deeds) ≡ deeds
  pub obeys : ObeysData v deeds
  pub merges : MergesInfo v deeds
  pub heeds : HeedsEmptied Given v deeds

-- and that within the session that goes on
pub record TellsWork (Given : Refusal → Type 0) (v : View) (old new : SiteNow) : Type 0 where
  pub tells : Tells Given v old new
  pub work : AreWork tells.deeds
