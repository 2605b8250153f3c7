-- The lock discipline: what a session may do, watched event by event.
use Rattle.std.specs.Prelude.{ℕ, ◌+◌, List, [], ◌∷◌, Bool, true, false, ◌&&◌, nat_le, nat_lt, ◌≡◌}
use Rattle.jop_target.specs.declared.call.Call.{Call}
use Rattle.jop_target.specs.declared.reply.Reply.{Reply}
use Rattle.jop_target.specs.declared.event.Event.{Event}
use Rattle.jop_target.specs.declared.event.Event.TheVariants.{Began, Sent, Called, Made, Ended}
use Rattle.jop_target.specs.Trail.{told}
use Rattle.lease.specs.Locks.{RENEWAL}
use Rattle.lease.specs.Phase.{Phase, Free, Looked, Held, Over, Broken, Role, PutsOwn, DeletesOwn, role_of, phase_after, phase_unheard}

-- What is seen of the last session of a trail: whether it goes on; its phase; the last moment that
-- it was told, 0 before the first; and whether it has kept its locks in order so far, and renewed
-- in time.
pub record Session : Type 0 where
  pub running : Bool
  pub phase : Phase
  pub now : ℕ
  pub lawful : Bool

-- ---- the three tests

-- only its own locks are put and deleted, each in its order, and nothing is called when all is over
abbrev pub keeps_lock_order : Phase → Bool
keeps_lock_order Broken = false
keeps_lock_order phase = true

-- a held lease is renewed when it is due by the last moment heard, before anything else, and not
-- sooner
abbrev pub renews_in_time : Phase → ℕ → Role → Bool
renews_in_time (Held kind stamp) now (PutsOwn own) = nat_le (stamp + RENEWAL) now
renews_in_time (Held kind stamp) now (DeletesOwn own) = true
renews_in_time (Held kind stamp) now role = nat_lt now (stamp + RENEWAL)
renews_in_time phase now role = true

-- a session ends without its lock, as far as it can know
abbrev pub ends_released : Phase → Bool
ends_released Free = true
ends_released (Looked listing) = true
ends_released Over = true
ends_released phase = false

-- ---- the monitor

-- a session that begins, whatever stands before it
abbrev pub begun : Session
begun = record { running = true; phase = Free; now = 0; lawful = true }

-- outside every session
abbrev pub outside : Session
outside = record { running = false; phase = Free; now = 0; lawful = true }

abbrev pub session_after_call : List ℕ → Session → Call → Reply → Session
session_after_call client s call reply = record {
  running = s.running;
  phase = phase_after client s.phase call reply;
  now = told s.now reply;
  lawful = s.lawful && (s.running
      && (renews_in_time s.phase s.now (role_of client call)
      && keeps_lock_order (phase_after client s.phase call reply)));
}

abbrev pub after_unheard : List ℕ → Session → Call → Session
after_unheard client s call = record {
  running = s.running;
  phase = phase_unheard client s.phase call;
  now = s.now;
  lawful = s.lawful && (s.running
      && (renews_in_time s.phase s.now (role_of client call)
      && keeps_lock_order (phase_unheard client s.phase call)));
}

abbrev pub session_after : List ℕ → Session → Event → Session
session_after client s Began = begun
session_after client s (Sent call) = after_unheard client s call
session_after client s (Called call reply) = session_after_call client s call reply
session_after client s (Made number) = s
session_after client s Ended = record {
  running = false;
  phase = s.phase;
  now = s.now;
  lawful = s.lawful && s.running;
}

unfoldable pub session_from : List ℕ → Session → List Event → Session
session_from client s [] = s
session_from client s (e ∷ es) = session_from client (session_after client s e) es

-- the last session of a trail
abbrev pub session_of : List ℕ → List Event → Session
session_of client trail = session_from client outside trail

-- where that session stands with its lease
abbrev pub phase_of : List ℕ → List Event → Phase
phase_of client trail = (session_of client trail).phase

-- ---- whole trails

-- each session is lawful to its end, or to where the next one begins
unfoldable pub lawful_from : List ℕ → Session → List Event → Bool
lawful_from client s [] = s.lawful
lawful_from client s (Began ∷ es) = s.lawful && lawful_from client begun es
lawful_from client s (e ∷ es) = lawful_from client (session_after client s e) es

-- each session that ends has released its lock, as far as it can know
unfoldable pub released_from : List ℕ → Session → List Event → Bool
released_from client s [] = true
released_from client s (Ended ∷ es) =
    ends_released s.phase && released_from client (session_after client s Ended) es
released_from client s (e ∷ es) = released_from client (session_after client s e) es

-- each session of the trail keeps this client's locks in order and renews in time, and no call
-- stands outside a session
abbrev pub KeepsLocks : List ℕ → List Event → Type 0
KeepsLocks client trail = lawful_from client outside trail ≡ true

-- each session of the trail obeys the lock discipline: it keeps its locks, and releases them at its
-- end
pub record ObeysLocks (client : List ℕ) (trail : List Event) : Type 0 where
  pub keeps : KeepsLocks client trail
  pub releases : released_from client outside trail ≡ true
