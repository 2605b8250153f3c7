-- Histories that are written out: one client upgrades a target between the syncs of two others, and
-- one begins an upgrade again that another was stopped in.
use Rattle.std.specs.Prelude.{ℕ, List, [], ◌∷◌, codes}
use Rattle.jop_base.specs.declared.dir.Dir.{Dir}
use Rattle.jop_base.specs.declared.dir.Dir.TheVariants.{Root, Resources, OldSync, Locks, Temp}
use Rattle.jop_base.specs.declared.lock_name.LockKind.TheVariants.{Sync, Exclusive}
use Rattle.jop_base.specs.declared.path.Path.{Path}
use Rattle.jop_base.specs.declared.path.Path.TheVariants.{Info as InfoFile, Item, OldVersion}
use Rattle.jop_target.specs.History.{History, Step, Stopped, WritesAt}
use Rattle.jop_target.specs.declared.call.Call.TheVariants.{List as ListDir, Get, MakeDir, Put}
use Rattle.jop_target.specs.declared.reply.Entry.{Entry}
use Rattle.jop_target.specs.declared.reply.Reply.TheVariants.{Done, Got, Listed}
use Rattle.jop_target.specs.declared.tree.Content.TheVariants.{Whole}
use Rattle.lease.specs.Exclusion.{Holds}
use Rattle.lease.specs.Stories.{begins, calls, deletes_lock, ends, lists_locks, makes_locks, misses, one, puts_empty, puts_lock, shown, two}
use Rattle.sync_info.specs.Info.{new_info}
use Rattle.sync_info.specs.Json.{info_text}

-- ---- who, and what is done

abbrev pub three : List ℕ
three = codes "33333333333333333333333333333333"

abbrev pub gets_file : List ℕ → ℕ → Path → List ℕ → Step
gets_file client moment path content = calls client moment (Get path) (Got moment content)

abbrev pub puts_file : List ℕ → ℕ → Path → List ℕ → Step
puts_file client moment path content = calls client moment (Put path content) (Done moment)

abbrev pub makes_dir : List ℕ → ℕ → Dir → Step
makes_dir client moment dir = calls client moment (MakeDir dir) (Done moment)

abbrev pub lists_root : List ℕ → ℕ → List Entry → Step
lists_root client moment entries =
    calls client moment (ListDir Root) (Listed (record { now = moment; entries = entries }))

-- the text of the info of a new target at this version
abbrev pub info_at : ℕ → List ℕ
info_at version = info_text (new_info version)

-- the client's program is stopped
abbrev pub stops : List ℕ → ℕ → Step
stops client moment = record { client = client; moment = moment; happens = Stopped }

-- a synchroniser of this id writes
pub record HasSync (h : History) (client : List ℕ) : Type 0 where
  pub place : ℕ
  pub stamp : ℕ
  pub writes : WritesAt h place client
  pub holds : Holds h place client Sync stamp

-- ---- an upgrade between two syncs

-- the second client finds version 1, and writes nothing
abbrev pub finds_it_older : List Step → List Step
finds_it_older rest =
    begins two 0
    ∷ lists_locks two 1 []
    ∷ puts_lock two 2 Sync
    ∷ lists_locks two 3 (shown Sync two 2 ∷ [])
    ∷ misses two 4 InfoFile
    ∷ gets_file two 5 OldVersion (codes "1")
    ∷ deletes_lock two 6 Sync
    ∷ ends two 6
    ∷ rest

-- the first client brings the target from version 1 to 3
abbrev pub upgrades_it : List Step → List Step
upgrades_it rest =
    begins one 10
    ∷ makes_locks one 11
    ∷ lists_locks one 12 []
    ∷ puts_lock one 13 Exclusive
    ∷ lists_locks one 14 (shown Exclusive one 13 ∷ [])
    ∷ misses one 15 InfoFile
    ∷ gets_file one 16 OldVersion (codes "1")
    ∷ makes_dir one 17 Locks
    ∷ makes_dir one 18 Temp
    ∷ puts_file one 19 OldVersion (codes "2")
    ∷ puts_file one 20 InfoFile (info_at 2)
    ∷ lists_root one 21 (record { path = InfoFile; stamp = 20 } ∷ [])
    ∷ puts_file one 22 InfoFile (info_at 3)
    ∷ deletes_lock one 23 Exclusive
    ∷ ends one 23
    ∷ rest

-- the third client finds version 3, and puts an item and the info
abbrev pub writes_to_it : List Step → List Step
writes_to_it rest =
    begins three 30
    ∷ lists_locks three 31 []
    ∷ puts_lock three 32 Sync
    ∷ lists_locks three 33 (shown Sync three 32 ∷ [])
    ∷ gets_file three 34 InfoFile (info_at 3)
    ∷ puts_empty three 35 (Item three)
    ∷ puts_file three 36 InfoFile (info_at 3)
    ∷ deletes_lock three 37 Sync
    ∷ ends three 37
    ∷ rest

abbrev pub between_syncs : History
between_syncs = record {
  opening = record {
    files = record { path = OldVersion; content = Whole (codes "1"); stamp = 0 } ∷ [];
    folders = [];
  };
  steps = finds_it_older (upgrades_it (writes_to_it []));
}

-- ---- an upgrade that is stopped, and begun again

-- the first client brings a new target to version 1, and is stopped before there is an `info.json`
abbrev pub is_stopped : List Step → List Step
is_stopped rest =
    begins one 0
    ∷ makes_locks one 1
    ∷ lists_locks one 2 []
    ∷ puts_lock one 3 Exclusive
    ∷ lists_locks one 4 (shown Exclusive one 3 ∷ [])
    ∷ misses one 5 InfoFile
    ∷ misses one 6 OldVersion
    ∷ makes_dir one 7 Resources
    ∷ makes_dir one 8 OldSync
    ∷ puts_file one 9 OldVersion (codes "1")
    ∷ makes_dir one 10 Locks
    ∷ makes_dir one 11 Temp
    ∷ puts_file one 12 OldVersion (codes "2")
    ∷ stops one 12
    ∷ rest

-- the second finds that lock at the end of its life, and goes on from version 1
abbrev pub goes_on_from_there : List Step → List Step
goes_on_from_there rest =
    begins two 180003
    ∷ lists_locks two 180003 (shown Exclusive one 3 ∷ [])
    ∷ puts_lock two 180004 Exclusive
    ∷ lists_locks two 180005 (shown Exclusive one 3 ∷ shown Exclusive two 180004 ∷ [])
    ∷ misses two 180006 InfoFile
    ∷ gets_file two 180007 OldVersion (codes "2")
    ∷ makes_dir two 180008 Locks
    ∷ makes_dir two 180009 Temp
    ∷ puts_file two 180010 OldVersion (codes "2")
    ∷ puts_file two 180011 InfoFile (info_at 2)
    ∷ lists_root two 180012 (record { path = InfoFile; stamp = 180011 } ∷ [])
    ∷ puts_file two 180013 InfoFile (info_at 3)
    ∷ deletes_lock two 180014 Exclusive
    ∷ ends two 180014
    ∷ rest

abbrev pub begun_again : History
begun_again = record {
  opening = record { files = []; folders = [] };
  steps = is_stopped (goes_on_from_there []);
}
