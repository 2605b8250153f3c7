-- Where a session stands with its lease, by its own calls and their replies alone.
use Rattle.std.specs.Prelude.{ℕ, ◌+◌, List, Bool, true, false, ◌&&◌, is_none, if◌then◌else◌, nat_lt, Option, Some, None}
use Rattle.jop_base.specs.Paths.{is_guarded}
use Rattle.jop_base.specs.declared.lock_name.LockKind.{LockKind}
use Rattle.jop_base.specs.declared.dir.Dir.{Dir}
use Rattle.jop_base.specs.declared.dir.Dir.TheVariants.{Locks, Temp}
use Rattle.jop_base.specs.declared.path.Path.{Path}
use Rattle.jop_base.specs.declared.path.Path.TheVariants.{Lock as LockFile}
use Rattle.jop_target.specs.declared.call.Call.{Call}
use Rattle.jop_target.specs.declared.call.Call.TheVariants.{List as ListDir, Get, Put, Delete, MakeDir, GetBlob, PutBlob}
use Rattle.jop_target.specs.declared.reply.Reply.{Reply}
use Rattle.jop_target.specs.declared.reply.Reply.TheVariants.{Listed, Done, Failed}
use Rattle.jop_target.specs.declared.reply.Listing.{Listing}
use Rattle.lease.specs.declared.lock.Lock.{Lock}
use Rattle.lease.specs.Locks.{LIFE, RENEWAL, is_own, same_kind, blocking_in, own_stamp}

-- ---- what a call is for a client

pub data Role : Type 0 where
  MakesLocks : Role
  ListsLocks : Role
  PutsOwn : (kind : LockKind) → Role
  DeletesOwn : (kind : LockKind) → Role
  -- a call that has nothing to do with locks or temporary files, or makes the folder of these
  Plain : Role
  -- a call on another's lock, or on a temporary file
  Foreign : Role

abbrev pub listing_role : Dir → Role
listing_role Locks = ListsLocks
listing_role Temp = Foreign
listing_role dir = Plain

abbrev pub making_role : Dir → Role
making_role Locks = MakesLocks
making_role dir = Plain

abbrev pub guarded_role : Path → Role
guarded_role path = if is_guarded path then Plain else Foreign

abbrev pub putting_role : List ℕ → Path → Role
putting_role client (LockFile name) = if is_own client name then PutsOwn name.kind else Foreign
putting_role client path = guarded_role path

abbrev pub deleting_role : List ℕ → Path → Role
deleting_role client (LockFile name) = if is_own client name then DeletesOwn name.kind else Foreign
deleting_role client path = guarded_role path

abbrev pub role_of : List ℕ → Call → Role
role_of client (ListDir dir) = listing_role dir
role_of client (Get path) = guarded_role path
role_of client (Put path content) = putting_role client path
role_of client (Delete path) = deleting_role client path
role_of client (MakeDir dir) = making_role dir
role_of client (GetBlob id) = Plain
role_of client (PutBlob id len) = Plain

-- ---- what a listing shows of its own lock

-- its own lock was put before the lease's old end, if there is one, and is shown in time
abbrev pub is_in_time : Option ℕ → ℕ → ℕ → Bool
is_in_time None now stamp = nat_lt now (stamp + RENEWAL)
is_in_time (Some end) now stamp = nat_lt stamp end && nat_lt now (stamp + RENEWAL)

-- the stamp from which the lease is held, if its own lock is there in time
abbrev pub stamp_in_time : Option ℕ → ℕ → Option ℕ → Option ℕ
stamp_in_time old_end now None = None
stamp_in_time old_end now (Some stamp) = if is_in_time old_end now stamp then Some stamp else None

-- ---- phases

pub data Phase : Type 0 where
  Free : Phase
  -- the locks were listed
  Looked : (listing : Listing) → Phase
  -- its own lock was put
  Asked : (kind : LockKind) → Phase
  -- the lease is held, and its own lock has this stamp
  Held : (kind : LockKind) (stamp : ℕ) → Phase
  -- its own lock was put again
  Renewing : (kind : LockKind) (stamp : ℕ) → Phase
  -- there is no lease, and its own lock is still to be deleted
  Leaving : (kind : LockKind) → Phase
  -- nothing more may be called
  Over : Phase
  -- something was called that may not be
  Broken : Phase

-- when the lease ends that is being renewed
abbrev pub old_end : Phase → Option ℕ
old_end (Renewing kind stamp) = Some (stamp + LIFE)
old_end phase = None

-- a lease is held from that stamp on if its own lock is shown in time, and no lock is in its way
abbrev pub listed_phase : LockKind → Option ℕ → Option Lock → Phase
listed_phase kind None blocking = Leaving kind
listed_phase kind (Some stamp) None = Held kind stamp
listed_phase kind (Some stamp) (Some lock) = Leaving kind

-- behind its first put; behind a later one no lock is in its way any more
abbrev pub asked_phase : LockKind → List ℕ → Listing → Phase
asked_phase kind client listing =
    let shown = stamp_in_time None listing.now (own_stamp kind client listing) in
    listed_phase kind shown (blocking_in kind client listing)

abbrev pub renewed_phase : LockKind → ℕ → List ℕ → Listing → Phase
renewed_phase kind stamp client listing =
    let shown = stamp_in_time (Some (stamp + LIFE)) listing.now (own_stamp kind client listing) in
    listed_phase kind shown None

-- the calls that a phase allows
abbrev pub allows : List ℕ → Phase → Role → Bool
allows client Free MakesLocks = true
allows client Free ListsLocks = true
allows client (Looked listing) (PutsOwn kind) = is_none (blocking_in kind client listing)
allows client (Asked kind) ListsLocks = true
allows client (Held kind stamp) (PutsOwn own) = same_kind kind own
allows client (Held kind stamp) (DeletesOwn own) = same_kind kind own
allows client (Held kind stamp) MakesLocks = true
allows client (Held kind stamp) Plain = true
allows client (Renewing kind stamp) ListsLocks = true
allows client (Leaving kind) (DeletesOwn own) = same_kind kind own
allows client phase role = false

-- what a phase becomes by an allowed call and its reply
abbrev pub heard : List ℕ → Phase → Role → Reply → Phase
heard client phase role Failed = Over
heard client Free MakesLocks (Done now) = Free
heard client Free ListsLocks (Listed listing) = Looked listing
heard client (Looked listing) (PutsOwn kind) (Done now) = Asked kind
heard client (Asked kind) ListsLocks (Listed listing) = asked_phase kind client listing
heard client (Held kind stamp) (PutsOwn own) (Done now) = Renewing kind stamp
heard client (Held kind stamp) (DeletesOwn own) reply = Over
heard client (Held kind stamp) MakesLocks reply = Held kind stamp
heard client (Held kind stamp) Plain reply = Held kind stamp
heard client (Renewing kind stamp) ListsLocks (Listed listing) =
    renewed_phase kind stamp client listing
heard client (Leaving kind) (DeletesOwn own) reply = Over
heard client phase role reply = Broken

abbrev pub phase_after : List ℕ → Phase → Call → Reply → Phase
phase_after client phase call reply =
    if allows client phase (role_of client call)
    then heard client phase (role_of client call) reply
    else Broken

-- an allowed call whose reply is never heard is the last one
abbrev pub phase_unheard : List ℕ → Phase → Call → Phase
phase_unheard client phase call =
    if allows client phase (role_of client call) then Over else Broken
