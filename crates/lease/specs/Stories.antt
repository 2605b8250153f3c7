-- Histories that are written out: words for their steps, and one in which a client upgrades.
use Rattle.std.specs.Prelude.{ℕ, List, [], ◌∷◌, codes, true}
use Rattle.jop_base.specs.declared.dir.Dir.TheVariants.{Locks}
use Rattle.jop_base.specs.declared.lock_name.LockKind.{LockKind}
use Rattle.jop_base.specs.declared.lock_name.LockKind.TheVariants.{Sync, Exclusive}
use Rattle.jop_base.specs.declared.path.Path.{Path}
use Rattle.jop_base.specs.declared.path.Path.TheVariants.{Info, Item, OldVersion, Lock as LockFile}
use Rattle.jop_target.specs.History.{Begins, Answered, Ends, Step, History}
use Rattle.jop_target.specs.declared.call.Call.{Call}
use Rattle.jop_target.specs.declared.call.Call.TheVariants.{List as ListDir, Get, Put, Delete, MakeDir}
use Rattle.jop_target.specs.declared.reply.Entry.{Entry}
use Rattle.jop_target.specs.declared.reply.Reply.{Reply}
use Rattle.jop_target.specs.declared.reply.Reply.TheVariants.{Listed, Done, Absent}
use Rattle.lease.specs.Locks.{own_name, content_of}

-- ---- who

abbrev pub one : List ℕ
one = codes "11111111111111111111111111111111"

abbrev pub two : List ℕ
two = codes "22222222222222222222222222222222"

-- ---- what is done, each call answered at the moment at which it lands

abbrev pub begins : List ℕ → ℕ → Step
begins client moment = record { client = client; moment = moment; happens = Begins }

abbrev pub ends : List ℕ → ℕ → Step
ends client moment = record { client = client; moment = moment; happens = Ends }

abbrev pub calls : List ℕ → ℕ → Call → Reply → Step
calls client moment call reply =
    record { client = client; moment = moment; happens = Answered call reply true }

abbrev pub makes_locks : List ℕ → ℕ → Step
makes_locks client moment = calls client moment (MakeDir Locks) (Done moment)

abbrev pub lists_locks : List ℕ → ℕ → List Entry → Step
lists_locks client moment entries =
    calls client moment (ListDir Locks) (Listed (record { now = moment; entries = entries }))

-- a client's own lock
abbrev pub lock_of : LockKind → List ℕ → Path
lock_of kind client = LockFile (own_name kind client)

abbrev pub puts_lock : List ℕ → ℕ → LockKind → Step
puts_lock client moment kind =
    calls client moment (Put (lock_of kind client) (content_of kind client)) (Done moment)

abbrev pub deletes_lock : List ℕ → ℕ → LockKind → Step
deletes_lock client moment kind = calls client moment (Delete (lock_of kind client)) (Done moment)

-- a lock in a listing
abbrev pub shown : LockKind → List ℕ → ℕ → Entry
shown kind client stamp = record { path = lock_of kind client; stamp = stamp }

abbrev pub puts_empty : List ℕ → ℕ → Path → Step
puts_empty client moment path = calls client moment (Put path []) (Done moment)

abbrev pub misses : List ℕ → ℕ → Path → Step
misses client moment path = calls client moment (Get path) (Absent moment)

-- ---- an upgrade

-- One client upgrades by two writes, while another finds its lock in the way; the other comes back
-- later, and writes.
abbrev pub an_upgrade : History
an_upgrade = record {
  opening = record { files = []; folders = [] };
  steps =
      begins one 0
      ∷ makes_locks one 1
      ∷ lists_locks one 2 []
      ∷ puts_lock one 3 Exclusive
      ∷ lists_locks one 4 (shown Exclusive one 3 ∷ [])
      ∷ puts_empty one 5 OldVersion
      ∷ begins two 5
      ∷ lists_locks two 6 (shown Exclusive one 3 ∷ [])
      ∷ ends two 6
      ∷ puts_empty one 7 Info
      ∷ deletes_lock one 8 Exclusive
      ∷ ends one 8
      ∷ begins two 9
      ∷ lists_locks two 9 []
      ∷ puts_lock two 10 Sync
      ∷ lists_locks two 11 (shown Sync two 10 ∷ [])
      ∷ puts_empty two 12 (Item two)
      ∷ deletes_lock two 13 Sync
      ∷ ends two 13
      ∷ [];
}
