-- Worked histories of all clients, given as lists of what they do.
use Rattle.std.specs.Prelude.{List, [], ◌∷◌, ℕ}
use Rattle.jop_base.specs.declared.dir.Dir.TheVariants.{Locks}
use Rattle.jop_base.specs.declared.lock_name.LockKind.{LockKind}
use Rattle.jop_base.specs.declared.lock_name.LockKind.TheVariants.{Sync, Exclusive}
use Rattle.jop_base.specs.declared.path.Path.TheVariants.{Info}
use Rattle.jop_target.specs.History.{History}
use Rattle.jop_target.specs.declared.reply.Entry.{Entry}
use Rattle.jop_target.specs.declared.tree.Content.TheVariants.{Whole}
use Rattle.jop_target.specs.declared.tree.Tree.{Tree}
use Rattle.lease.specs.declared.lock.Lock.{Lock}
use Rattle.lease.specs.Locks.{own_name}
use Rattle.lease.specs.Stories.{one, two, begins, makes_locks, lists_locks, lock_of, puts_lock, deletes_lock, shown, misses}

abbrev pub empty : Tree
empty = record { files = []; folders = [] }

-- a client's lock with its stamp
abbrev pub lock : LockKind → List ℕ → ℕ → Lock
lock kind client stamp = record { name = own_name kind client; stamp = stamp }

-- ---- two clients go for an upgrade at once: both list, both put, both list again, both give up

abbrev pub both_locks : List Entry
both_locks = shown Exclusive one 4 ∷ shown Exclusive two 5 ∷ []

-- up to the deletes
abbrev pub two_upgraders : History
two_upgraders = record {
  opening = empty;
  steps =
      begins one 0
      ∷ begins two 0
      ∷ makes_locks one 0
      ∷ makes_locks two 1
      ∷ lists_locks one 2 []
      ∷ lists_locks two 3 []
      ∷ puts_lock one 4 Exclusive
      ∷ puts_lock two 5 Exclusive
      ∷ lists_locks one 6 both_locks
      ∷ lists_locks two 7 both_locks
      ∷ deletes_lock one 8 Exclusive
      ∷ deletes_lock two 9 Exclusive
      ∷ [];
}

-- ---- a lease whose lock was put at 1000 is renewed_lock by a put at this moment, which the next listing shows

abbrev pub renewed_lock : ℕ → ℕ → History
renewed_lock put listed = record {
  opening = empty;
  steps =
      begins one 997
      ∷ makes_locks one 998
      ∷ lists_locks one 999 []
      ∷ puts_lock one 1000 Sync
      ∷ lists_locks one 1001 (shown Sync one 1000 ∷ [])
      ∷ misses one 61000 Info
      ∷ puts_lock one put Sync
      ∷ lists_locks one listed (shown Sync one put ∷ [])
      ∷ [];
}

abbrev pub renewed_in_time : History
renewed_in_time = renewed_lock 180999 181000

abbrev pub renewed_too_late : History
renewed_too_late = renewed_lock 181000 181001

-- ---- a client goes for an upgrade at this moment, where another's sync lock was put at 5000

abbrev pub behind_a_sync_lock : ℕ → History
behind_a_sync_lock now = record {
  opening = record {
    files = record { path = lock_of Sync two; content = Whole []; stamp = 5000 } ∷ [];
    folders = Locks ∷ [];
  };
  steps =
      begins one now
      ∷ lists_locks one now (shown Sync two 5000 ∷ [])
      ∷ [];
}
