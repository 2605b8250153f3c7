-- Which histories keep their upgrades apart, from each other and from all other writes.
use Rattle.std.specs.Prelude.{ℕ, ◌+◌, ◌≤◌, ◌<◌, ◌≡◌, ◌≢◌, List, ◌++◌, take, count_by, Bool, true, false}
use Rattle.jop_base.specs.declared.lock_name.LockKind.{LockKind}
use Rattle.jop_base.specs.declared.lock_name.LockKind.TheVariants.{Exclusive}
use Rattle.jop_target.specs.History.{History, Step, WritesAt, IsHonest, part_of}
use Rattle.jop_target.specs.declared.event.Event.{Event}
use Rattle.jop_target.specs.declared.event.Event.TheVariants.{Began}
use Rattle.lease.specs.Discipline.{KeepsLocks, phase_of}
use Rattle.lease.specs.Locks.{LIFE}
use Rattle.lease.specs.Phase.{Phase, Held}

-- ---- a client at a place

-- where a client stands with its lease after some steps, by its own calls alone
abbrev pub phase_at : List ℕ → List Step → Phase
phase_at client before = phase_of client (part_of client before)

-- at this place, counted from 0, the client has a lease of this kind, whose lock has this stamp
abbrev pub Holds : History → ℕ → List ℕ → LockKind → ℕ → Type 0
Holds h place client kind stamp = phase_at client (take place h.steps) ≡ Held kind stamp

abbrev pub is_began : Event → Bool
is_began Began = true
is_began event = false

-- how many sessions a client has begun, which is the number of the one that it is in
abbrev pub session_at : List ℕ → List Step → ℕ
session_at client before = count_by is_began (part_of client before)

-- ---- the premises

-- each write lands before the end of the lease under which it is made
pub record IsTimely (h : History) : Type 0 where
  pub each : (place : ℕ) (client : List ℕ) (kind : LockKind) (stamp : ℕ)
      (write : WritesAt h place client) → Holds h place client kind stamp →
      write.step.moment < stamp + LIFE

-- each session of each client keeps its locks in order and renews in time, whatever it writes; it
-- need not release them
pub record AllKeepLocks (h : History) : Type 0 where
  pub each : (client : List ℕ) → KeepsLocks client (part_of client h.steps)

-- What this client did is earlier sessions that keep its locks, and then this trail.
pub record EndsIn (h : History) (client : List ℕ) (trail : List Event) : Type 0 where
  pub earlier : List Event
  pub part : part_of client h.steps ≡ earlier ++ trail
  pub kept : KeepsLocks client earlier

-- the sessions of all other clients keep theirs
pub record OthersKeepLocks (h : History) (client : List ℕ) : Type 0 where
  pub each : (other : List ℕ) → other ≢ client → KeepsLocks other (part_of other h.steps)

-- ---- upgrades

-- at this place the client writes under an exclusive lease, in its session of this number
pub record Upgrades (h : History) (place : ℕ) (client : List ℕ) (session : ℕ) : Type 0 where
  pub writes : WritesAt h place client
  pub stamp : ℕ
  pub holds : Holds h place client Exclusive stamp
  pub numbered : session_at client (take place h.steps) ≡ session

-- the place stands within the span of an upgrade, from its first write to its last
pub record IsInSpan (h : History) (place : ℕ) (client : List ℕ) (session : ℕ) : Type 0 where
  pub first : ℕ
  pub last : ℕ
  pub opens : Upgrades h first client session
  pub closes : Upgrades h last client session
  pub after : first ≤ place
  pub before : place ≤ last

-- an upgrade of two writes or more
pub record HasUpgrade (h : History) : Type 0 where
  pub client : List ℕ
  pub session : ℕ
  pub first : ℕ
  pub last : ℕ
  pub opens : Upgrades h first client session
  pub closes : Upgrades h last client session
  pub two : first < last

-- ---- the promise

pub record IsHeldApart (h : History) : Type 0 where
  -- no other client writes within an upgrade
  pub alone : (place : ℕ) (client other : List ℕ) (session : ℕ) → IsInSpan h place client session →
      WritesAt h place other → other ≡ client
  -- no two upgrades overlap
  pub apart : (place : ℕ) (client other : List ℕ) (session number : ℕ) →
      IsInSpan h place client session → IsInSpan h place other number →
      (client ≡ other) × (session ≡ number)

-- Whatever history this trail is a client's last part of: if the store is honest, each write lands
-- in time and all other clients keep their locks, upgrades are held apart.
abbrev pub KeepsApart : List ℕ → List Event → Type 0
KeepsApart client trail =
    (h : History) → IsHonest h → IsTimely h → EndsIn h client trail → OthersKeepLocks h client →
    IsHeldApart h
