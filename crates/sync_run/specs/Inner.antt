-- The calls of a session are within it: they neither begin nor end it.
use Rattle.std.specs.Prelude.{ℕ, List}
use Rattle.jop_target.specs.declared.event.Event.{Event}
use Rattle.jop_target.specs.declared.event.Event.TheVariants.{Began, Ended}
use Rattle.lease.specs.Calls.{IsLeaseEvent}
use Rattle.lease.specs.WholeSession.{IsInner}
use Rattle.target_upgrade.specs.Answers.{IsCall}

pub lease_inner : (client : List ℕ) (e : Event) → IsLeaseEvent client e → IsInner e
lease_inner client Began h = h
lease_inner client Ended h = h
lease_inner client e h = tt

pub upgrade_inner : (client : List ℕ) (e : Event) → IsCall e → IsInner e
upgrade_inner client Began h = h
upgrade_inner client Ended h = h
upgrade_inner client e h = tt
