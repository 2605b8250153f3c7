-- A store and a target in memory: what they keep, and what is made of them.
use Rattle.std.specs.Prelude.{ℕ, ◌+◌, ◌≤◌, ◌≡◌, List, [], length, All, min, Option, Some, None, Bool}
use Rattle.jop_base.specs.Keyed.{IsSorted, put}
use Rattle.jop_base.specs.Paths.{IsPath, dir_text}
use Rattle.jop_outside.specs.Outside.{risen}
use Rattle.jop_outside.specs.Plan.{after_call, next_fate, with_failing as with_failing_call}
use Rattle.jop_base.specs.declared.dir.Dir.{Dir}
use Rattle.jop_base.specs.declared.path.Path.{Path}
use Rattle.jop_base.specs.declared.path.Path.TheVariants.{Blob}
use Rattle.jop_base.specs.Times.{last_time}
use Rattle.jop_target.specs.declared.tree.BlobBytes.{BlobBytes}
use Rattle.jop_target.specs.declared.tree.Content.{Content}
use Rattle.jop_target.specs.declared.tree.Content.TheVariants.{Whole, Sized}
use Rattle.jop_target.specs.declared.tree.File.{File}
use Rattle.jop_target.specs.Store.{Contents, Store, file_key, blob_key, set_file, without_file, bytes_of, with_blob, without_blob}

-- what a target in memory holds, and how often it has failed
pub record Memory : Type 0 where
  pub store : Store
  pub faults : ℕ

-- a store that holds nothing
abbrev pub no_contents : Contents
no_contents = record { tree = record { files = []; folders = [] }; blobs = [] }

-- an empty target, whose first call has this moment, and each later call is a step later
abbrev pub memory_at : ℕ → ℕ → Memory
memory_at start step = record {
  store = record {
    contents = no_contents;
    moment = min start last_time;
    step = step;
    plan = record { made = 0; failing = [] };
  };
  faults = 0;
}

-- ---- what it keeps

abbrev pub IsWholeContent : Content → Type 0
IsWholeContent (Whole bytes) = Unit {0}
IsWholeContent (Sized len) = ⊥

-- of a blob a tree has the number of its bytes, and of every other file the bytes
abbrev pub Fits : List BlobBytes → Path → Content → Type 0
Fits blobs (Blob id) content = content ≡ Sized (length (bytes_of blobs id))
Fits blobs path content = IsWholeContent content

-- what every file keeps
pub record IsSoundFile (blobs : List BlobBytes) (f : File) : Type 0 where
  pub path : IsPath f.path
  pub stamp : f.stamp ≤ last_time
  pub content : Fits blobs f.path f.content

-- what every store in memory keeps: files, folders and blobs stand in order, so each stands there
-- once
pub record IsSoundStore (c : Contents) : Type 0 where
  pub ordered : IsSorted file_key c.tree.files
  pub files : All (IsSoundFile c.blobs) c.tree.files
  pub folders : IsSorted dir_text c.tree.folders
  pub blobs : IsSorted blob_key c.blobs

-- ---- what is made of it

-- with a file of these bytes, of which a tree has their number if it is a blob
abbrev pub with_placed : Contents → Path → List ℕ → ℕ → Contents
with_placed c (Blob id) bytes stamp = record {
  tree = set_file c.tree (Blob id) (Sized (length bytes)) stamp;
  blobs = with_blob c.blobs id bytes;
}
with_placed c path bytes stamp = record c { tree = set_file c.tree path (Whole bytes) stamp }

-- with a folder that was made
abbrev pub with_folder : Contents → Dir → Contents
with_folder c dir = record c { tree = record c.tree { folders = put dir_text c.tree.folders dir } }

-- without the file at a path
abbrev pub without : Contents → Path → Contents
without c path = record {
  tree = record c.tree { files = without_file c.tree.files path };
  blobs = without_blob c.blobs path;
}

-- a target with other contents
abbrev pub holding : Memory → Contents → Memory
holding m contents = record m { store = record m.store { contents = contents } }

-- with one call more that is to fail
abbrev pub with_call_to_fail : Memory → ℕ → Bool → Memory
with_call_to_fail m nth landed =
    record m { store = record m.store { plan = with_failing_call m.store.plan nth landed } }

-- how often it has failed after a call of this fate
abbrev pub faults_after : Option Bool → ℕ → ℕ
faults_after None faults = faults
faults_after (Some landed) faults = risen faults

-- with the moment, the plan and the faults after the next call
abbrev pub after_count : Memory → Memory
after_count m = record {
  store = record m.store {
    moment = min (m.store.moment + m.store.step) last_time;
    plan = after_call m.store.plan;
  };
  faults = faults_after (next_fate m.store.plan) m.faults;
}
