-- A lease in a trail.
use Rattle.std.specs.Prelude.{ℕ, ◌+◌, ◌≤◌, ◌<◌, ◌≡◌, List, true}
use Rattle.jop_base.specs.Times.{last_time}
use Rattle.jop_target.specs.declared.event.Event.{Event}
use Rattle.jop_target.specs.Trail.{last_moment}
use Rattle.lease.specs.declared.lease.Lease.{Lease}
use Rattle.lease.specs.Discipline.{session_of}
use Rattle.lease.specs.Locks.{RENEWAL}
use Rattle.lease.specs.Phase.{Phase, Held}

-- the trail's last session goes on, has kept its locks, and stands in this phase
pub record StandsIn (client : List ℕ) (trail : List Event) (at : Phase) : Type 0 where
  pub running : (session_of client trail).running ≡ true
  pub lawful : (session_of client trail).lawful ≡ true
  pub phase : (session_of client trail).phase ≡ at

-- the trail's last session holds this lease
pub record IsHeld (lease : Lease) (trail : List Event) : Type 0 where
  pub in_time : lease.stamp ≤ last_time
  pub stands : StandsIn lease.client trail (Held lease.kind lease.stamp)

-- and the lease isn't due by the last moment heard
pub record IsFresh (lease : Lease) (trail : List Event) : Type 0 where
  pub held : IsHeld lease trail
  pub fresh : last_moment trail < lease.stamp + RENEWAL

-- or it is due
pub record IsDue (lease : Lease) (trail : List Event) : Type 0 where
  pub held : IsHeld lease trail
  pub due : lease.stamp + RENEWAL ≤ last_moment trail

-- the same lease, but for its stamp
abbrev pub IsSameBut : Lease → Lease → Type 0
IsSameBut old new = new ≡ record old { stamp = new.stamp }
