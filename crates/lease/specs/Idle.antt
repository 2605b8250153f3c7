-- What is work, done under a lease, and what a lease does by itself.
use Rattle.std.specs.Prelude.{ℕ, List, [], ◌∷◌, ◌++◌, ◌≡◌, Bool, true, false, ◌&&◌, not}
use Rattle.jop_target.specs.declared.event.Event.{Event}
use Rattle.jop_target.specs.declared.event.Event.TheVariants.{Sent, Called}
use Rattle.lease.specs.Discipline.{Session, session_of, session_after}
use Rattle.lease.specs.Phase.{Phase, Held, Role, MakesLocks, PutsOwn, DeletesOwn, Plain, role_of}

-- a call that may be made under a lease: it makes a folder, or has nothing to do with locks or
-- temporary files
abbrev pub is_working : Role → Bool
is_working MakesLocks = true
is_working Plain = true
is_working role = false

-- whether a call is work: the lease is held, and the call isn't the put or the delete of its own
-- lock
abbrev pub is_work : Phase → Role → Bool
is_work (Held kind stamp) (PutsOwn own) = false
is_work (Held kind stamp) (DeletesOwn own) = false
is_work (Held kind stamp) role = true
is_work phase role = false

-- whether an event is a call that is no work
abbrev pub is_idle_event : List ℕ → Session → Event → Bool
is_idle_event client s (Sent call) = not (is_work s.phase (role_of client call))
is_idle_event client s (Called call reply) = not (is_work s.phase (role_of client call))
is_idle_event client s event = false

unfoldable pub is_idle_from : List ℕ → Session → List Event → Bool
is_idle_from client s [] = true
is_idle_from client s (e ∷ es) =
    is_idle_event client s e && is_idle_from client (session_after client s e) es

-- what stands in the second trail behind the first are calls, none of them work
pub record IsIdle (client : List ℕ) (old new : List Event) : Type 0 where
  pub more : List Event
  pub trail : new ≡ old ++ more
  pub idle : is_idle_from client (session_of client old) more ≡ true
