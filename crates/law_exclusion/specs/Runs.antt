-- A stopped upgrade that is run again, in a history of all clients.
use Rattle.std.specs.Prelude.{ℕ, ◌≡◌, List, [], ◌∷◌, ◌++◌, Bool, true, false, ◌&&◌, not, Option, Some, None, bytes_eq}
use Rattle.jop_base.specs.declared.dir.Dir.TheVariants.{Locks}
use Rattle.jop_base.specs.declared.lock_name.LockKind.TheVariants.{Sync}
use Rattle.jop_target.specs.declared.call.Call.{Call}
use Rattle.jop_target.specs.declared.call.Call.TheVariants.{Put, Delete, MakeDir, PutBlob}
use Rattle.jop_target.specs.declared.event.Event.{Event}
use Rattle.jop_target.specs.declared.event.Event.TheVariants.{Began}
use Rattle.jop_target.specs.History.{History, Step, IsHonest, landed_call, tree_from, part_of}
use Rattle.jop_target.specs.Store.{is_same_dir}
use Rattle.lease.specs.Exclusion.{is_began}
use Rattle.lease.specs.Phase.{Phase, Held}
use Rattle.target_upgrade.specs.Course.{Course, course_after, course_from, begun_course, ObeysLease}
use Rattle.target_upgrade.specs.Steps.{Upgraded}
use Rattle.law_exclusion.specs.Target.{is_lock, upgraded, IsAlike}

-- ---- other clients

-- a call that changes nothing but lock files and the folder of locks
abbrev pub is_aside : Call → Bool
is_aside (Put path content) = is_lock path
is_aside (Delete path) = is_lock path
is_aside (MakeDir dir) = is_same_dir dir Locks
is_aside (PutBlob id len) = false
is_aside call = true

abbrev pub lands_aside : Option Call → Bool
lands_aside None = true
lands_aside (Some call) = is_aside call

-- of other clients only such calls land
abbrev pub OthersAside : List ℕ → List Step → Type 0
OthersAside client [] = Unit {0}
OthersAside client (s ∷ ss) =
    (bytes_eq s.client client ≡ false → lands_aside (landed_call s.happens) ≡ true)
    × OthersAside client ss

-- ---- a session

abbrev pub is_sync_phase : Phase → Bool
is_sync_phase (Held Sync stamp) = true
is_sync_phase phase = false

-- the session begins no other one, and never holds a sync lock
unfoldable pub is_upgrade_from : List ℕ → Course → List Event → Bool
is_upgrade_from client c [] = true
is_upgrade_from client c (e ∷ es) =
    not (is_began e) && (not (is_sync_phase c.lease.phase)
    && is_upgrade_from client (course_after client c e) es)

-- it begins no other one
abbrev pub begins_none : List Event → Bool
begins_none [] = true
begins_none (e ∷ es) = not (is_began e) && begins_none es

-- In these steps of all clients this one begins a session, which goes on by these events and obeys
-- its lease. Of others nothing lands that an upgrade is about.
pub record HasSession (client : List ℕ) (steps : List Step) (events : List Event) : Type 0 where
  pub part : part_of client steps ≡ Began ∷ events
  pub obeys : ObeysLease client (Began ∷ events)
  pub aside : OthersAside client steps

-- and the session is an upgrade, which may have been stopped anywhere
pub record IsStopped (client : List ℕ) (steps : List Step) : Type 0 where
  pub events : List Event
  pub session : HasSession client steps events
  pub upgrade : is_upgrade_from client begun_course events ≡ true

-- and the session is an upgrade that is done
pub record IsDoneUpgrade (client : List ℕ) (steps : List Step) : Type 0 where
  pub events : List Event
  pub session : HasSession client steps events
  pub one : begins_none events ≡ true
  pub done : (course_from client begun_course events).stage ≡ Upgraded

-- In a history an upgrade of one client, stopped wherever it was, is followed by one of the same or
-- another client, which is done.
pub record IsRedone (h : History) : Type 0 where
  pub before : List Step
  pub one : List ℕ
  pub first : List Step
  pub two : List ℕ
  pub second : List Step
  pub steps : h.steps ≡ before ++ (first ++ second)
  pub stopped : IsStopped one first
  pub done : IsDoneUpgrade two second

-- the target is then the upgraded one of that before the first run
abbrev pub IsAsUpgraded : (h : History) → List Step → Type 0
IsAsUpgraded h before =
    IsAlike (tree_from h.opening h.steps) (upgraded (tree_from h.opening before))

-- ---- as seen by the client that runs it again

-- A history ends with an upgrade of one client, stopped wherever it was, and then with this trail
-- of a client, while of others nothing lands that an upgrade is about.
pub record EndsAgain (h : History) (client : List ℕ) (trail : List Event) : Type 0 where
  pub before : List Step
  pub one : List ℕ
  pub first : List Step
  pub second : List Step
  pub steps : h.steps ≡ before ++ (first ++ second)
  pub stopped : IsStopped one first
  pub part : part_of client second ≡ trail
  pub aside : OthersAside client second

-- or it ends with this trail alone
pub record EndsOnce (h : History) (client : List ℕ) (trail : List Event) : Type 0 where
  pub before : List Step
  pub run : List Step
  pub steps : h.steps ≡ before ++ run
  pub part : part_of client run ≡ trail
  pub aside : OthersAside client run

-- In whatever honest history this trail is such an end, the target is the upgraded one.
pub record LeavesUpgraded (client : List ℕ) (trail : List Event) : Type 0 where
  pub once : (h : History) → IsHonest h → (ends : EndsOnce h client trail) →
      IsAsUpgraded h ends.before
  pub again : (h : History) → IsHonest h → (ends : EndsAgain h client trail) →
      IsAsUpgraded h ends.before

-- so it is behind each session that obeys its lease and has made all steps
abbrev pub DoneSessionsLeaveUpgraded : Type 0
DoneSessionsLeaveUpgraded =
    (client : List ℕ) (events : List Event) → ObeysLease client (Began ∷ events) →
    begins_none events ≡ true → (course_from client begun_course events).stage ≡ Upgraded →
    LeavesUpgraded client (Began ∷ events)
