-- Short histories, each of which breaks one premise of the law of exclusion and meets the others.
use Rattle.std.specs.Prelude.{ℕ, suc, List, [], ◌∷◌, codes}
use Rattle.jop_base.specs.declared.dir.Dir.TheVariants.{Locks, Temp}
use Rattle.jop_base.specs.declared.lock_name.LockKind.TheVariants.{Sync, Exclusive}
use Rattle.jop_base.specs.declared.path.Path.TheVariants.{Info as InfoFile, Item, OldVersion}
use Rattle.jop_target.specs.History.{History, Step}
use Rattle.jop_target.specs.declared.call.Call.TheVariants.{Delete}
use Rattle.jop_target.specs.declared.reply.Entry.{Entry}
use Rattle.jop_target.specs.declared.reply.Reply.TheVariants.{Done}
use Rattle.jop_target.specs.declared.tree.Content.TheVariants.{Whole}
use Rattle.jop_target.specs.declared.tree.Tree.{Tree}
use Rattle.lease.specs.Stories.{begins, calls, deletes_lock, ends, lists_locks, misses, one, puts_empty, puts_lock, shown, two}
use Rattle.law_exclusion.specs.Stories.{gets_file, info_at, lists_root, makes_dir, puts_file}

-- ---- targets

-- `info.json` tells this version
abbrev pub told_as : ℕ → Tree
told_as version = record {
  files = record { path = InfoFile; content = Whole (info_at version); stamp = 0 } ∷ [];
  folders = [];
}

-- there is `version.txt` alone, so the version is 1
abbrev pub first_version : Tree
first_version = record {
  files = record { path = OldVersion; content = Whole (codes "1"); stamp = 0 } ∷ [];
  folders = [];
}

-- ---- sessions

-- a client takes a sync lock from this moment on, where these locks are shown and none is in the way
abbrev pub takes_sync_lock : List ℕ → ℕ → (List Entry → List Entry) → List Step → List Step
takes_sync_lock client moment among rest =
    begins client moment
    ∷ lists_locks client moment (among [])
    ∷ puts_lock client (suc moment) Sync
    ∷ lists_locks client (suc (suc moment)) (among (shown Sync client (suc moment) ∷ []))
    ∷ rest

abbrev pub alone : List Entry → List Entry
alone entries = entries

-- the first client has its sync lock, of moment 1
abbrev pub beside_the_first : List Entry → List Entry
beside_the_first entries = shown Sync one 1 ∷ entries

-- a client deletes `info.json`
abbrev pub deletes_info : List ℕ → ℕ → Step
deletes_info client moment = calls client moment (Delete InfoFile) (Done moment)

-- ---- histories

-- A client puts an `info.json` without any lock, while another syncs.
abbrev pub written_past_the_locks : History
written_past_the_locks = record {
  opening = told_as 3;
  steps =
      takes_sync_lock one 0 alone (
      gets_file one 3 InfoFile (info_at 3)
      ∷ begins two 4
      ∷ puts_file two 5 InfoFile (info_at 2)
      ∷ puts_empty one 6 (Item one)
      ∷ []);
}

-- A synchroniser writes without having read the version.
abbrev pub written_unread : History
written_unread = record {
  opening = first_version;
  steps = takes_sync_lock one 0 alone (puts_empty one 3 (Item one) ∷ []);
}

-- A synchroniser puts an `info.json` of another version, while another syncs.
abbrev pub put_at_another_version : History
put_at_another_version = record {
  opening = told_as 3;
  steps =
      takes_sync_lock one 0 alone (
      gets_file one 3 InfoFile (info_at 3)
      ∷ takes_sync_lock two 4 beside_the_first (
      gets_file two 7 InfoFile (info_at 3)
      ∷ puts_file two 8 InfoFile (info_at 2)
      ∷ puts_empty one 9 (Item one)
      ∷ []));
}

-- A synchroniser deletes `info.json`, while another syncs.
abbrev pub info_deleted : History
info_deleted = record {
  opening = told_as 3;
  steps =
      takes_sync_lock one 0 alone (
      gets_file one 3 InfoFile (info_at 3)
      ∷ takes_sync_lock two 4 beside_the_first (
      gets_file two 7 InfoFile (info_at 3)
      ∷ deletes_info two 8
      ∷ puts_empty one 9 (Item one)
      ∷ []));
}

-- The store answers with an `info.json` that it no longer holds.
abbrev pub shown_what_was : History
shown_what_was = record {
  opening = told_as 2;
  steps =
      takes_sync_lock one 0 alone (
      gets_file one 3 InfoFile (info_at 3)
      ∷ puts_empty one 4 (Item one)
      ∷ []);
}

-- A client reads version 1 under its exclusive lock, and its first write lands past the end of its
-- lease; by then another has upgraded the target.
abbrev pub written_late : History
written_late = record {
  opening = first_version;
  steps =
      begins one 0
      ∷ lists_locks one 0 []
      ∷ puts_lock one 1 Exclusive
      ∷ lists_locks one 2 (shown Exclusive one 1 ∷ [])
      ∷ misses one 3 InfoFile
      ∷ gets_file one 4 OldVersion (codes "1")
      ∷ makes_dir one 5 Locks
      ∷ makes_dir one 6 Temp
      ∷ begins two 180001
      ∷ lists_locks two 180001 (shown Exclusive one 1 ∷ [])
      ∷ puts_lock two 180002 Exclusive
      ∷ lists_locks two 180003 (shown Exclusive one 1 ∷ shown Exclusive two 180002 ∷ [])
      ∷ misses two 180004 InfoFile
      ∷ gets_file two 180005 OldVersion (codes "1")
      ∷ makes_dir two 180006 Locks
      ∷ makes_dir two 180007 Temp
      ∷ puts_file two 180008 OldVersion (codes "2")
      ∷ puts_file two 180009 InfoFile (info_at 2)
      ∷ lists_root two 180010 (record { path = InfoFile; stamp = 180009 } ∷ [])
      ∷ puts_file two 180011 InfoFile (info_at 3)
      ∷ deletes_lock two 180012 Exclusive
      ∷ ends two 180012
      ∷ puts_file one 180013 OldVersion (codes "2")
      ∷ [];
}
