-- What a store of files answers, and what each call makes of it.
use denote.Enum.Declared.{tag_of}
use Rattle.std.specs.Prelude.{ℕ, ◌+◌, List, [], ◌∷◌, length, Bool, true, if◌then◌else◌, min, nat_lt, nat_eq, bytes_eq, Option, Some, None}
use Rattle.jop_base.specs.Keyed.{at, put, cut}
use Rattle.jop_base.specs.Paths.{dir_of, dir_text, path_text}
use Rattle.jop_outside.specs.Plan.{Calls, after_call, next_fate}
use Rattle.jop_base.specs.contracts.dir.Dir.{the_type}
use Rattle.jop_base.specs.declared.dir.Dir.{Dir}
use Rattle.jop_base.specs.declared.path.Path.{Path}
use Rattle.jop_base.specs.declared.path.Path.TheVariants.{Blob}
use Rattle.jop_base.specs.Times.{last_time}
use Rattle.jop_target.specs.declared.call.Call.{Call}
use Rattle.jop_target.specs.declared.call.Call.TheVariants.{List as ListDir, Get, Put, Delete, MakeDir, GetBlob, PutBlob}
use Rattle.jop_target.specs.declared.reply.Reply.{Reply}
use Rattle.jop_target.specs.declared.reply.Reply.TheVariants.{Listed, Got, GotBlob, Absent, Done, Failed, TooLarge}
use Rattle.jop_target.specs.declared.reply.Entry.{Entry}
use Rattle.jop_target.specs.declared.tree.BlobBytes.{BlobBytes}
use Rattle.jop_target.specs.declared.tree.Content.{Content}
use Rattle.jop_target.specs.declared.tree.Content.TheVariants.{Whole, Sized}
use Rattle.jop_target.specs.declared.tree.File.{File}
use Rattle.jop_target.specs.declared.tree.Tree.{Tree}

-- the most bytes of a file that is read and isn't a blob: 16 MiB
abbrev pub FILE_LIMIT : ℕ
FILE_LIMIT = 16777216

-- the most bytes of a blob that is read: 64 MiB
abbrev pub BLOB_LIMIT : ℕ
BLOB_LIMIT = 67108864

-- the most bytes of a file that are read
abbrev pub limit_of : Path → ℕ
limit_of (Blob id) = BLOB_LIMIT
limit_of path = FILE_LIMIT

-- ---- files

-- the text by which a file is found
abbrev pub file_key : File → List ℕ
file_key f = path_text f.path

abbrev pub entry_key : Entry → List ℕ
entry_key e = path_text e.path

-- whether both are the same file: their texts are equal
abbrev pub is_same : Path → Path → Bool
is_same p q = bytes_eq (path_text p) (path_text q)

-- the file at a path
abbrev pub file_at : List File → Path → Option File
file_at files path = at file_key files (path_text path)

-- the files with this one at its place
abbrev pub with_file : List File → File → List File
with_file files file = put file_key files file

-- the files without the one at a path
abbrev pub without_file : List File → Path → List File
without_file files path = cut file_key files (path_text path)

abbrev pub entry_of : File → Entry
entry_of f = record { path = f.path; stamp = f.stamp }

-- which of the folders it is: how many are declared before it
abbrev pub dir_number : Dir → ℕ
dir_number dir = tag_of the_type dir

abbrev pub is_same_dir : Dir → Dir → Bool
is_same_dir d e = nat_eq (dir_number d) (dir_number e)

-- the files of a folder
unfoldable pub entries_in : List File → Dir → List Entry
entries_in [] dir = []
entries_in (f ∷ fs) dir =
    if is_same_dir (dir_of f.path) dir then entry_of f ∷ entries_in fs dir else entries_in fs dir

-- ---- a call at a moment

-- a file read whole; a blob isn't read so
abbrev pub got_content : ℕ → ℕ → Content → Reply
got_content now limit (Whole bytes) =
    if nat_lt limit (length bytes) then TooLarge (length bytes) else Got now bytes
got_content now limit (Sized len) = TooLarge len

-- a blob's length
abbrev pub got_size : ℕ → ℕ → Content → Reply
got_size now limit (Whole bytes) = TooLarge (length bytes)
got_size now limit (Sized len) = if nat_lt limit len then TooLarge len else GotBlob now len

abbrev pub got : ℕ → ℕ → Option File → Reply
got now limit None = Absent now
got now limit (Some f) = got_content now limit f.content

abbrev pub got_blob : ℕ → ℕ → Option File → Reply
got_blob now limit None = Absent now
got_blob now limit (Some f) = got_size now limit f.content

abbrev pub deleted : ℕ → Option File → Reply
deleted now None = Absent now
deleted now (Some f) = Done now

-- what a call is answered at a moment
unfoldable pub reply_of : Tree → ℕ → Call → Reply
reply_of tree now (ListDir dir) = Listed (record { now = now; entries = entries_in tree.files dir })
reply_of tree now (Get path) = got now (limit_of path) (file_at tree.files path)
reply_of tree now (Put path content) = Done now
reply_of tree now (Delete path) = deleted now (file_at tree.files path)
reply_of tree now (MakeDir dir) = Done now
reply_of tree now (GetBlob id) = got_blob now (limit_of (Blob id)) (file_at tree.files (Blob id))
reply_of tree now (PutBlob id len) = Done now

abbrev pub set_file : Tree → Path → Content → ℕ → Tree
set_file tree path content now = record tree {
  files = with_file tree.files (record { path = path; content = content; stamp = now });
}

-- the tree after a call at a moment
unfoldable pub tree_after : Tree → ℕ → Call → Tree
tree_after tree now (ListDir dir) = tree
tree_after tree now (Get path) = tree
tree_after tree now (Put path content) = set_file tree path (Whole content) now
tree_after tree now (Delete path) = record tree { files = without_file tree.files path }
tree_after tree now (MakeDir dir) = record tree { folders = put dir_text tree.folders dir }
tree_after tree now (GetBlob id) = tree
tree_after tree now (PutBlob id len) = set_file tree (Blob id) (Sized len) now

-- ---- the bytes of blobs

-- the text by which a blob's bytes are found
abbrev pub blob_key : BlobBytes → List ℕ
blob_key b = b.id

abbrev pub bytes_in : Option BlobBytes → List ℕ
bytes_in None = []
bytes_in (Some b) = b.bytes

-- the bytes of a blob, if there are any
abbrev pub bytes_of : List BlobBytes → List ℕ → List ℕ
bytes_of blobs id = bytes_in (at blob_key blobs id)

-- the blobs with these bytes for that id
abbrev pub with_blob : List BlobBytes → List ℕ → List ℕ → List BlobBytes
with_blob blobs id bytes = put blob_key blobs (record { id = id; bytes = bytes })

-- the blobs without the one whose file is at a path, if it is a blob's
abbrev pub without_blob : List BlobBytes → Path → List BlobBytes
without_blob blobs (Blob id) = cut blob_key blobs id
without_blob blobs path = blobs

-- the bytes of blobs after a call that hands in those of one
abbrev pub blobs_after : List BlobBytes → Call → List ℕ → List BlobBytes
blobs_after blobs (ListDir dir) bytes = blobs
blobs_after blobs (Get path) bytes = blobs
blobs_after blobs (Put path content) bytes = blobs
blobs_after blobs (Delete path) bytes = without_blob blobs path
blobs_after blobs (MakeDir dir) bytes = blobs
blobs_after blobs (GetBlob id) bytes = blobs
blobs_after blobs (PutBlob id len) bytes = with_blob blobs id bytes

-- ---- a store that tells what it holds

-- its files and folders, and the bytes of its blobs
pub record Contents : Type 0 where
  pub tree : Tree
  pub blobs : List BlobBytes

-- what it holds after a call at a moment, which hands in these bytes of a blob
abbrev pub contents_after : Contents → ℕ → Call → List ℕ → Contents
contents_after c now call bytes =
    record { tree = tree_after c.tree now call; blobs = blobs_after c.blobs call bytes }

-- What it holds; the moment of its next call; how much later each call is than the one before; and
-- which calls are to fail.
pub record Store : Type 0 where
  pub contents : Contents
  pub moment : ℕ
  pub step : ℕ
  pub plan : Calls

-- a call lands, unless it is to fail without landing
abbrev pub lands : Option Bool → Bool
lands None = true
lands (Some landed) = landed

abbrev pub fated : Option Bool → Reply → Reply
fated None reply = reply
fated (Some landed) reply = Failed

-- what the next call is answered
abbrev pub store_reply : Store → Call → Reply
store_reply s call = fated (next_fate s.plan) (reply_of s.contents.tree s.moment call)

-- what it holds after the next call, which hands in these bytes of a blob
abbrev pub landed_contents : Store → Call → List ℕ → Contents
landed_contents s call bytes =
    if lands (next_fate s.plan) then contents_after s.contents s.moment call bytes else s.contents

-- the store after that call
abbrev pub store_after : Store → Call → List ℕ → Store
store_after s call bytes = record {
  contents = landed_contents s call bytes;
  moment = min (s.moment + s.step) last_time;
  step = s.step;
  plan = after_call s.plan;
}
