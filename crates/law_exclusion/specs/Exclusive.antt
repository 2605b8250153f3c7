-- Which histories are exclusive: upgrades are held apart, and each write lands on the version of the
-- target that its session has read.
use Rattle.std.specs.Prelude.{ℕ, ◌≤◌, ◌≡◌, ◌≢◌, All, List, [], take, Some}
use Rattle.jop_base.specs.declared.lock_name.LockKind.TheVariants.{Sync}
use Rattle.jop_target.specs.History.{History, IsHonest, WritesAt, part_of, tree_at}
use Rattle.jop_target.specs.declared.event.Event.{Event}
use Rattle.jop_target.specs.declared.tree.Tree.{Tree}
use Rattle.lease.specs.Discipline.{KeepsLocks}
use Rattle.lease.specs.Exclusion.{EndsIn, Holds, IsHeldApart, IsTimely, OthersKeepLocks, Upgrades}
use Rattle.target_upgrade.specs.Course.{KeepsVersions}
use Rattle.law_exclusion.specs.Target.{tree_version}
use Rattle.law_exclusion.specs.Learnt.{learnt_of}

-- ---- the version that was read

-- The last session of the trail has read a version, and the tree has each version that it has read.
pub record IsAsRead (tree : Tree) (trail : List Event) : Type 0 where
  pub read : (learnt_of trail).versions ≢ []
  pub each : All (λ (version : ℕ). tree_version tree ≡ Some version) (learnt_of trail).versions

-- when this place is reached, the tree is as the session has read it that the client is in
abbrev pub IsAsReadAt : History → ℕ → List ℕ → Type 0
IsAsReadAt h place client = IsAsRead (tree_at h place) (part_of client (take place h.steps))

-- at this place the client makes the first write of an upgrade, in its session of this number
pub record OpensUpgrade (h : History) (place : ℕ) (client : List ℕ) (session : ℕ) : Type 0 where
  pub upgrades : Upgrades h place client session
  pub first : (other : ℕ) → Upgrades h other client session → place ≤ other

-- Each write of a synchroniser lands while the target has the version that its session has read,
-- and so does the first write of each upgrade. Its later writes follow its own steps.
pub record LandsAsRead (h : History) : Type 0 where
  pub sync : (place : ℕ) (client : List ℕ) (stamp : ℕ) → WritesAt h place client →
      Holds h place client Sync stamp → IsAsReadAt h place client
  pub upgrade : (place : ℕ) (client : List ℕ) (session : ℕ) →
      OpensUpgrade h place client session → IsAsReadAt h place client

-- No other client writes within an upgrade; no two upgrades overlap; and each write lands on the
-- version that its session has read.
pub record IsExclusive (h : History) : Type 0 where
  pub apart : IsHeldApart h
  pub as_read : LandsAsRead h

-- ---- the premises

-- each session of each client does under its leases what is allowed
pub record AllKeepVersions (h : History) : Type 0 where
  pub each : (client : List ℕ) → KeepsVersions client (part_of client h.steps)

-- What this client did is earlier sessions that keep its locks and do what is allowed, and then
-- this trail.
pub record EndsAllowed (h : History) (client : List ℕ) (trail : List Event) : Type 0 where
  pub ends : EndsIn h client trail
  pub versions : KeepsVersions client ends.earlier

-- the sessions of all other clients keep their locks and do what is allowed
pub record OthersObeyLease (h : History) (client : List ℕ) : Type 0 where
  pub locks : OthersKeepLocks h client
  pub versions : (other : List ℕ) → other ≢ client →
      KeepsVersions other (part_of other h.steps)

-- ---- the promise, as seen by one client

-- Whatever history this trail is a client's last part of: if the store is honest, each write lands
-- in time and all other clients keep their locks and do what is allowed, it is exclusive.
abbrev pub KeepsExclusive : List ℕ → List Event → Type 0
KeepsExclusive client trail =
    (h : History) → IsHonest h → IsTimely h → EndsAllowed h client trail →
    OthersObeyLease h client →
    IsExclusive h

-- so it is of each trail that keeps its locks and does what is allowed
abbrev pub KeptTrailsAreExclusive : Type 0
KeptTrailsAreExclusive =
    (client : List ℕ) (trail : List Event) → KeepsLocks client trail →
    KeepsVersions client trail → KeepsExclusive client trail
