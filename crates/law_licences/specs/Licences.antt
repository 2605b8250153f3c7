-- What a client may do, by what one has seen of it: each put and delete of an item, and each change, has its licence.
use Rattle.std.specs.Prelude.{List, [], ◌∷◌}
use Rattle.jop_base.specs.declared.path.Path.TheVariants.{Info as InfoFile, Item, Blob}
use Rattle.jop_target.specs.declared.call.Call.{Call}
use Rattle.jop_target.specs.declared.call.Call.TheVariants.{Put, Delete, PutBlob}
use Rattle.local_store.specs.Sound.{IsAllowed}
use Rattle.local_store.specs.declared.change.Change.{Change}
use Rattle.local_store.specs.declared.change.Change.TheVariants.{Named, Saved, Removed, Uploaded, Dropped, Taken, Conflict, Moved, Gone, Opened, Cleared, InfoIs, ContextIs}
use Rattle.law_licences.specs.Conflicts.{MayConflict}
use Rattle.law_licences.specs.Deeds.{Deed, Begins, Asks, Makes, MakesUntold, Ends, Stops}
use Rattle.law_licences.specs.Deletions.{MayDelete, MayDeleteBlob, MayDrop}
use Rattle.law_licences.specs.Infos.{MayPutInfo, MaySetInfo}
use Rattle.law_licences.specs.Leaving.{MayMove}
use Rattle.law_licences.specs.Opens.{MayOpen}
use Rattle.law_licences.specs.Pages.{MayTake, MayGo, MayFinish}
use Rattle.law_licences.specs.Puts.{MayPut, MayUpload, MayPutBlob}
use Rattle.law_licences.specs.Sealing.{Sealing}
use Rattle.law_licences.specs.Views.{View, Stage, Outside, Working, Finished, seen}

-- ---- calls

abbrev pub IsInside : Stage → Type 0
IsInside Outside = ⊥
IsInside Working = Unit {0}
IsInside Finished = Unit {0}

-- Items and the bytes of resources are put and deleted by licence; of all else nothing is said here.
abbrev pub MayCall : View → Call → Type 0
MayCall v (Put (Item id) content) = MayPut v id content
MayCall v (Delete (Item id)) = MayDelete v id
MayCall v (Delete (Blob id)) = MayDeleteBlob v id
MayCall v (PutBlob id len) = MayPutBlob v id
MayCall v call = Unit {0}

-- ---- changes

-- what a user changes stands in no session
abbrev pub IsLocal : Change → Type 0
IsLocal (Named client) = Unit {0}
IsLocal (Saved id item) = Unit {0}
IsLocal (Removed id) = Unit {0}
IsLocal (Cleared number) = Unit {0}
IsLocal (InfoIs info) = Unit {0}
IsLocal change = ⊥

-- what a session may change
abbrev pub MayChange : View → Change → Type 0
MayChange v (Uploaded id bytes) = MayUpload v id bytes
MayChange v (Dropped id) = MayDrop v id
MayChange v (Taken id bytes content) = MayTake v id bytes content
MayChange v (Conflict id remote copies) = MayConflict v id remote copies
MayChange v (Moved id) = MayMove v id
MayChange v (Gone id) = MayGo v id
MayChange v (Opened id item) = MayOpen v id item
MayChange v (InfoIs info) = MaySetInfo v info
MayChange v (ContextIs context) = MayFinish v context
MayChange v change = ⊥

abbrev pub MayMakeAt : Stage → View → Change → Type 0
MayMakeAt Outside v change = IsLocal change
MayMakeAt Working v change = MayChange v change
MayMakeAt Finished v change = ⊥

abbrev pub MayMake : View → Change → Type 0
MayMake v change = MayMakeAt v.stage v change

-- ---- all that a client does

-- every call stands in a session
abbrev pub MayDo : View → Deed → Type 0
MayDo v Begins = Unit {0}
MayDo v (Asks call reply) = IsInside v.stage × MayCall v call
MayDo v (Makes change) = MayMake v change
MayDo v MakesUntold = ⊥
MayDo v Ends = Unit {0}
MayDo v Stops = Unit {0}

-- each deed is as `P` says of it, and of what is seen before it
unfoldable pub Each : (View → Deed → Type 0) → View → List Deed → Type 0
Each P v [] = Unit {0}
Each P v (d ∷ ds) = P v d × Each P (seen v d) ds

-- calls and allowed changes, in no other session than the one that goes on
unfoldable pub AreWork : List Deed → Type 0
AreWork [] = Unit {0}
AreWork (Asks call reply ∷ ds) = AreWork ds
AreWork (Makes change ∷ ds) = IsAllowed change × AreWork ds
AreWork (d ∷ ds) = ⊥

-- each call and change has its licence
abbrev pub ObeysData : View → List Deed → Type 0
ObeysData v ds = Each MayDo v ds

-- ---- whatever the keys

-- it has its licence, if its session has some keys
abbrev pub MayDoBySome : View → Deed → Type 0
MayDoBySome v d = (s : Sealing) × MayDo (record v { sealing = s }) d

-- So has each of these, which may stand in several sessions, each with keys of its own.
abbrev pub ObeysBySome : View → List Deed → Type 0
ObeysBySome v ds = Each MayDoBySome v ds

-- ---- a synchroniser

abbrev pub MaySend : View → Call → Type 0
MaySend v (Put InfoFile content) = MayPutInfo v content
MaySend v call = Unit {0}

abbrev pub MayMerge : View → Deed → Type 0
MayMerge v (Asks call reply) = MaySend v call
MayMerge v deed = Unit {0}

-- each put of the info has its licence, which is asked of synchronisers alone: an upgrade puts it by its own steps
abbrev pub MergesInfo : View → List Deed → Type 0
MergesInfo v ds = Each MayMerge v ds
