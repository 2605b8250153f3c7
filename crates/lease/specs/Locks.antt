-- Locks, and which of them keep a client from taking its own.
use Rattle.std.specs.Prelude.{ℕ, ◌+◌, List, [], ◌∷◌, ◌++◌, Bool, true, false, ◌&&◌, not, nat_lt, nat_eq, bytes_eq, codes, find, option_map, Option}
use Rattle.jop_base.specs.LockNames.{Name, kind_digit}
use Rattle.jop_base.specs.declared.lock_name.LockKind.{LockKind}
use Rattle.jop_base.specs.declared.lock_name.LockKind.TheVariants.{Sync, Exclusive}
use Rattle.jop_base.specs.declared.path.Path.{Path}
use Rattle.jop_base.specs.declared.path.Path.TheVariants.{Lock as LockFile}
use Rattle.jop_target.specs.declared.reply.Entry.{Entry}
use Rattle.jop_target.specs.declared.reply.Listing.{Listing}
use Rattle.lease.specs.declared.lock.Lock.{Lock}

-- how long a lock lives from its stamp on, in milliseconds
abbrev pub LIFE : ℕ
LIFE = 180000

-- how long a lease is used from its lock's stamp on before it is renewed, in milliseconds
abbrev pub RENEWAL : ℕ
RENEWAL = 60000

-- the digit by which this program's locks differ from those of other programs for the same client
abbrev pub CLIENT_TYPE : ℕ
CLIENT_TYPE = 3

-- a lock is live until its life after its stamp is over
abbrev pub is_live : Lock → ℕ → Bool
is_live lock now = nat_lt now (lock.stamp + LIFE)

-- the name of a client's own lock
abbrev pub own_name : LockKind → List ℕ → Name
own_name kind client = record { kind = kind; client_type = CLIENT_TYPE; client = client }

-- whether a lock is one of this program for this client
abbrev pub is_own : List ℕ → Name → Bool
is_own client name = nat_eq name.client_type CLIENT_TYPE && bytes_eq name.client client

-- whether a lock of the second kind, of another, keeps one of the first from being taken
abbrev pub excludes : LockKind → LockKind → Bool
excludes Sync Sync = false
excludes Sync Exclusive = true
excludes Exclusive other = true

abbrev pub same_kind : LockKind → LockKind → Bool
same_kind Sync Sync = true
same_kind Exclusive Exclusive = true
same_kind kind other = false

-- the content of a lock's file, which nobody reads
abbrev pub content_of : LockKind → List ℕ → List ℕ
content_of kind client =
    codes "{\"type\":" ++ kind_digit kind ∷
    (codes ",\"clientType\":3,\"clientId\":\"" ++ (client ++ codes "\"}"))

-- ---- in a listing

abbrev pub with_lock : Path → ℕ → List Lock → List Lock
with_lock (LockFile name) stamp locks = record { name = name; stamp = stamp } ∷ locks
with_lock path stamp locks = locks

-- the locks of a listing, in its order
abbrev pub locks_in : List Entry → List Lock
locks_in [] = []
locks_in (e ∷ es) = with_lock e.path e.stamp (locks_in es)

-- whether a lock keeps the client from taking one of this kind: another's, live, and in the way
abbrev pub is_in_way : LockKind → List ℕ → ℕ → Lock → Bool
is_in_way kind client now lock =
    excludes kind lock.name.kind && not (is_own client lock.name) && is_live lock now

-- the first lock of a listing that keeps the client from taking one of this kind
abbrev pub blocking_in : LockKind → List ℕ → Listing → Option Lock
blocking_in kind client listing =
    find (is_in_way kind client listing.now) (locks_in listing.entries)

-- whether a lock is the client's own of this kind
abbrev pub is_own_of : LockKind → List ℕ → Lock → Bool
is_own_of kind client lock = is_own client lock.name && same_kind kind lock.name.kind

-- the stamp of the client's own lock of this kind in a listing
abbrev pub own_stamp : LockKind → List ℕ → Listing → Option ℕ
own_stamp kind client listing =
    option_map (λ (lock : Lock). lock.stamp) (find (is_own_of kind client)
    (locks_in listing.entries))
