-- What stands in a folder's listing.
use Rattle.std.specs.Prelude.{ℕ, ◌≡◌, ◌≤◌, List, All}
use Rattle.jop_base.specs.Paths.{IsPath, dir_of}
use Rattle.jop_base.specs.declared.dir.Dir.{Dir}
use Rattle.jop_base.specs.declared.time.TheConstants.{MAX_TIME}
use Rattle.jop_base.specs.declared.dir.Dir.TheVariants.{Root}
use Rattle.jop_target.specs.declared.reply.Entry.{Entry}
use Rattle.jop_target.specs.declared.reply.Listing.{Listing}

-- The last time that a file of a folder has in a listing of this moment. An item that was written later is to be newer
-- to whoever lists it again; a lock has its own time.
abbrev pub latest_in : Dir → ℕ → ℕ
latest_in Root now = now
latest_in dir now = MAX_TIME

-- a file of that folder, with at most that time
pub record IsEntryOf (dir : Dir) (latest : ℕ) (entry : Entry) : Type 0 where
  pub path : IsPath entry.path
  pub inside : dir_of entry.path ≡ dir
  pub stamp : entry.stamp ≤ latest

-- files of that folder alone, each with at most that time
abbrev pub AreEntriesOf : Dir → ℕ → List Entry → Type 0
AreEntriesOf dir latest entries = All (IsEntryOf dir latest) entries

-- no file has a time past the last one that a listing of its folder and moment has
abbrev pub IsUpToMoment : Dir → Listing → Type 0
IsUpToMoment dir listing = All (λ (e : Entry). e.stamp ≤ latest_in dir listing.now) listing.entries
