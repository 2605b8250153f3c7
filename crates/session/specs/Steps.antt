-- Which events a part of a session adds.
use Rattle.std.specs.Prelude.{ℕ, ◌≡◌, ◌⊎◌, List, [], ◌∷◌, Bool, true, false, ◌&&◌, ◌||◌, not}
use Rattle.jop_target.specs.declared.call.Call.{Call}
use Rattle.jop_target.specs.declared.event.Event.{Event}
use Rattle.jop_target.specs.declared.event.Event.TheVariants.{Sent, Called, Made}
use Rattle.lease.specs.Calls.{IsLeaseCall}
use Rattle.lease.specs.Discipline.{Session, session_after}
use Rattle.lease.specs.Idle.{is_work}
use Rattle.lease.specs.Phase.{role_of}

-- a change, a call of this sort, or one of the lease's own
abbrev pub IsStep : (Call → Bool) → List ℕ → Event → Type 0
IsStep sort client (Sent call) = (sort call ≡ true) ⊎ IsLeaseCall client call
IsStep sort client (Called call reply) = (sort call ≡ true) ⊎ IsLeaseCall client call
IsStep sort client (Made number) = Unit {0}
IsStep sort client event = ⊥

-- whether an event is a change, a call of this sort, or one that is no work
abbrev pub is_sorted : (Call → Bool) → List ℕ → Session → Event → Bool
is_sorted sort client s (Sent call) = not (is_work s.phase (role_of client call)) || sort call
is_sorted sort client s (Called call reply) =
    not (is_work s.phase (role_of client call)) || sort call
is_sorted sort client s (Made number) = true
is_sorted sort client s event = false

-- all work that stands in these events, behind such a session, is of this sort
unfoldable pub works_by : (Call → Bool) → List ℕ → Session → List Event → Bool
works_by sort client s [] = true
works_by sort client s (e ∷ es) =
    is_sorted sort client s e && works_by sort client (session_after client s e) es
