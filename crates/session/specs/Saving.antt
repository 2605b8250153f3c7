-- The bytes of resources that a part of a session gets, and those that it has the keeper save.
use Rattle.std.specs.Prelude.{ℕ, List, [], ◌∷◌, ◌++◌, length, Some}
use Rattle.jop_base.specs.Keyed.{put}
use Rattle.jop_target.specs.declared.call.Call.{Call}
use Rattle.jop_target.specs.declared.call.Call.TheVariants.{GetBlob}
use Rattle.jop_target.specs.declared.reply.Reply.{Reply}
use Rattle.jop_target.specs.declared.reply.Reply.TheVariants.{GotBlob}
use Rattle.law_licences.specs.Deeds.{Deed, Asks}
use Rattle.local_store.specs.Changing.{after_all}
use Rattle.keeper.specs.Keepers.{Kept, blob_id}
use Rattle.keeper.specs.declared.blob.Blob.{Blob}
use Rattle.local_store.specs.declared.change.Change.{Change}

-- ---- got

-- bytes of a resource, of which only the id and the length are told
abbrev pub Told : Type 0
Told = List ℕ × ℕ

-- those that this reply tells to a get of the bytes
abbrev pub told_of : List ℕ → Reply → List Told
told_of id (GotBlob now len) = (id, len) ∷ []
told_of id reply = []

-- those that a call got
abbrev pub got_by : Call → Reply → List Told
got_by (GetBlob id) reply = told_of id reply
got_by call reply = []

abbrev pub got_in : Deed → List Told
got_in (Asks call (Some reply)) = got_by call reply
got_in deed = []

-- those that were got by these deeds, the first ones first
unfoldable pub blobs_got : List Deed → List Told
blobs_got [] = []
blobs_got (d ∷ ds) = got_in d ++ blobs_got ds

-- ---- saved

-- what is told of bytes
abbrev pub tale_of : Blob → Told
tale_of b = (b.id, length b.bytes)

-- what is kept of resources once these bytes are saved, the first ones first
unfoldable pub saved_all : List Blob → List Blob → List Blob
saved_all kept [] = kept
saved_all kept (b ∷ bs) = saved_all (put blob_id kept b) bs

-- what is kept after these changes, and once these bytes are saved
abbrev pub kept_after_saves : List Change → List Blob → Kept → Kept
kept_after_saves changes saves k = record {
  tables = after_all k.tables changes;
  blobs = saved_all k.blobs saves;
}
