-- The bytes of resources that a session has put or got: the target's are those that are kept.
use Rattle.std.specs.Prelude.{ℕ, ◌≡◌, List, [], ◌∷◌, Bool, true, false, bytes_eq, ◌||◌, if◌then◌else◌, Option, Some}
use Rattle.client.specs.Sites.{SiteNow}
use Rattle.jop_base.specs.declared.path.Path.{Path}
use Rattle.jop_base.specs.declared.path.Path.TheVariants.{Blob}
use Rattle.jop_target.specs.Store.{Store, bytes_of}
use Rattle.jop_target.specs.declared.call.Call.{Call}
use Rattle.jop_target.specs.declared.call.Call.TheVariants.{Delete, GetBlob, PutBlob}
use Rattle.jop_target.specs.declared.reply.Reply.{Reply}
use Rattle.jop_target.specs.declared.reply.Reply.TheVariants.{Done, GotBlob}
use Rattle.law_licences.specs.Trails.{session_calls}
use Rattle.law_licences.specs.Views.{Heard}
use Rattle.keeper.specs.Keepers.{IsBlobOfKept, Kept, blob_at}
use Rattle.session.specs.Saving.{Told}

-- ---- bytes that were moved

abbrev pub is_bytes_of : List ℕ → Path → Bool
is_bytes_of id (Blob other) = bytes_eq other id
is_bytes_of id path = false

-- a call on the bytes of this resource
abbrev pub is_on_bytes : List ℕ → Call → Bool
is_on_bytes id (GetBlob other) = bytes_eq other id
is_on_bytes id (PutBlob other len) = bytes_eq other id
is_on_bytes id (Delete path) = is_bytes_of id path
is_on_bytes id call = false

-- bytes were put, or got
abbrev pub moves : Call → Option Reply → Bool
moves (PutBlob id len) (Some (Done now)) = true
moves (GetBlob id) (Some (GotBlob now len)) = true
moves call reply = false

-- the last of these calls on the resource's bytes has put or got them
unfoldable pub moved : List ℕ → List Heard → Bool
moved id [] = false
moved id (h ∷ hs) = if is_on_bytes id h.call then moves h.call h.reply else moved id hs

-- ---- the same bytes

-- If the target and the keeper tell, and this session has put or got the resource's bytes, those
-- that are kept are the target's.
abbrev pub Agrees : List ℕ → SiteNow → Type 0
Agrees id d =
    (s : Store) (k : Kept) → d.line.target.store ≡ Some s → d.keeper.kept ≡ Some k
    → moved id (session_calls d.line.trail) ≡ true
    → blob_at k id ≡ Some (bytes_of s.contents.blobs id)

unfoldable pub is_owed : List ℕ → List Told → Bool
is_owed id [] = false
is_owed id (t ∷ ts) = bytes_eq t.0 id || is_owed id ts

-- this holds of each resource but those whose bytes are still to be saved
abbrev pub AgreeBut : List Told → SiteNow → Type 0
AgreeBut owed d = (id : List ℕ) → is_owed id owed ≡ false → Agrees id d

-- ---- one call

-- bytes that are put are those that are kept, if that is told
abbrev pub IsKeptFor : Option Kept → Call → List ℕ → Type 0
IsKeptFor kept (PutBlob id len) bytes = IsBlobOfKept kept id (Some bytes)
IsKeptFor kept call bytes = Unit {0}
