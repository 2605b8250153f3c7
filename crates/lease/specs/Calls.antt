-- What one call of a lease leaves, and several of them.
use Rattle.std.specs.Prelude.{ℕ, ◌≡◌, ◌⊎◌, List, [], ◌∷◌, ◌++◌, Result, Ok, Err, Bool, true, false}
use Rattle.std.specs.declared.alloc.AllocError.{AllocError}
use Rattle.jop_outside.specs.Outside.{HasRisen}
use Rattle.jop_base.specs.declared.lock_name.LockKind.{LockKind}
use Rattle.jop_base.specs.declared.dir.Dir.TheVariants.{Locks}
use Rattle.jop_base.specs.declared.path.Path.TheVariants.{Lock as LockFile}
use Rattle.jop_target.specs.declared.call.Call.{Call}
use Rattle.jop_target.specs.declared.call.Call.TheVariants.{List as ListDir, Put, Delete, MakeDir}
use Rattle.jop_target.specs.declared.reply.Reply.{Reply}
use Rattle.jop_target.specs.declared.reply.Reply.TheVariants.{Listed, Failed}
use Rattle.jop_target.specs.declared.reply.Listing.{Listing}
use Rattle.jop_target.specs.declared.event.Event.{Event}
use Rattle.jop_target.specs.declared.event.Event.TheVariants.{Sent, Called}
use Rattle.jop_target.specs.Replies.{IsReplyTo, IsListing}
use Rattle.jop_target.specs.Runs.{Continues}
use Rattle.jop_target.specs.Trail.{LineNow}
use Rattle.lease.specs.declared.error.AskErr.{AskErr}
use Rattle.lease.specs.declared.error.AskErr.TheVariants.{Fault, NoMemory as WantsMemory}
use Rattle.lease.specs.declared.sight.Sight.{Sight}
use Rattle.lease.specs.Added.{AddsCalls}
use Rattle.lease.specs.Discipline.{session_of, phase_of, keeps_lock_order, renews_in_time}
use Rattle.lease.specs.Idle.{is_work, IsIdle}
use Rattle.lease.specs.Locks.{own_name, own_stamp, blocking_in, content_of}
use Rattle.lease.specs.Phase.{Phase, Asked, Held, Renewing, Leaving, Over, PutsOwn, ListsLocks, role_of, allows, heard}
use Rattle.lease.specs.Standing.{StandsIn}

-- ---- a session goes on

-- the folder of locks is made or listed, or a lock of its own is put with its content, or deleted
abbrev pub IsLeaseCall : List ℕ → Call → Type 0
IsLeaseCall client (MakeDir Locks) = Unit {0}
IsLeaseCall client (ListDir Locks) = Unit {0}
IsLeaseCall client (Put path content) =
    (kind : LockKind) × (path ≡ LockFile (own_name kind client)) ×
    (content ≡ content_of kind client)
IsLeaseCall client (Delete path) = (kind : LockKind) × (path ≡ LockFile (own_name kind client))
IsLeaseCall client call = ⊥

abbrev pub IsLeaseEvent : List ℕ → Event → Type 0
IsLeaseEvent client (Called call reply) = IsLeaseCall client call
IsLeaseEvent client (Sent call) = IsLeaseCall client call
IsLeaseEvent client event = ⊥

-- A line has gone on by events as P says, and its last session goes on and keeps its locks.
pub record GoesOn (P : Event → Type 0) (client : List ℕ) (old new : LineNow) : Type 0 where
  pub running : (session_of client new.trail).running ≡ true
  pub lawful : (session_of client new.trail).lawful ≡ true
  pub line : Continues P old new

-- The same by calls of this client's lease alone, none of them work.
pub record LeaseGoesOn (client : List ℕ) (old new : LineNow) : Type 0 where
  pub running : (session_of client new.trail).running ≡ true
  pub lawful : (session_of client new.trail).lawful ≡ true
  pub line : Continues (IsLeaseEvent client) old new
  pub idle : IsIdle client old.trail new.trail

-- ---- one call

-- what the discipline asks of a call
pub record MayCallInOrder (client : List ℕ) (trail : List Event) (call : Call) : Type 0 where
  pub stands : StandsIn client trail (phase_of client trail)
  pub allowed : allows client (phase_of client trail) (role_of client call) ≡ true
  pub in_time :
      renews_in_time (phase_of client trail) (session_of client trail).now (role_of client call)
      ≡ true
  pub sound :
      (reply : Reply) → IsReplyTo call reply →
      keeps_lock_order (heard client (phase_of client trail) (role_of client call) reply) ≡ true

-- a call of the lease's own, which is no work
pub record MayAskOwn (client : List ℕ) (trail : List Event) (call : Call) : Type 0 where
  pub may : MayCallInOrder client trail call
  pub own : IsLeaseCall client call
  pub idle : is_work (phase_of client trail) (role_of client call) ≡ false

-- the call was made and has this reply
pub record HearsReply (client : List ℕ) (call : Call) (old new : LineNow) (reply : Reply)
    : Type 0 where
  pub trail : new.trail ≡ old.trail ++ Called call reply ∷ []
  pub shape : IsReplyTo call reply
  pub stands : StandsIn client new.trail (heard client (phase_of client old.trail)
      (role_of client call) reply)

-- the call was answered, and not by `Failed`
abbrev pub IsHeard : List ℕ → Call → LineNow → LineNow → Type 0
IsHeard client call old new =
    (reply : Reply) × HearsReply client call old new reply × ¬ (reply ≡ Failed)

-- the call was made, its reply isn't known, and the session is over
pub record IsLast (client : List ℕ) (call : Call) (old new : List Event) : Type 0 where
  pub trail : new ≡ old ++ Sent call ∷ []
  pub over : StandsIn client new Over

-- why one call gave nothing: it was answered `Failed`; or out of memory it wasn't made, or its
-- reply was never heard
abbrev pub IsRefused : List ℕ → Call → LineNow → LineNow → AskErr → Type 0
IsRefused client call old new Fault =
    HearsReply client call old new Failed × HasRisen old.target.faults new.target.faults
IsRefused client call old new WantsMemory =
    (new.trail ≡ old.trail) ⊎ IsLast client call old.trail new.trail

-- ---- several calls

abbrev pub is_held : Phase → Bool
is_held (Held kind stamp) = true
is_held phase = false

abbrev pub is_leaving : Phase → Bool
is_leaving (Leaving kind) = true
is_leaving phase = false

-- The trail ends in a call that was answered `Failed`, other than the delete of a lock that no
-- longer matters, and the session is over.
pub record EndsFailed (client : List ℕ) (trail : List Event) : Type 0 where
  pub before : List Event
  pub call : Call
  pub ends : trail ≡ before ++ Called call Failed ∷ []
  pub matters : is_leaving (phase_of client before) ≡ false
  pub over : StandsIn client trail Over

-- the target failed at the last call, and has counted it
pub record Fails (client : List ℕ) (old new : LineNow) : Type 0 where
  pub failed : EndsFailed client new.trail
  pub rose : HasRisen old.target.faults new.target.faults

-- out of memory nothing was called, or no lease is held
abbrev pub IsStarved : List ℕ → List Event → List Event → Type 0
IsStarved client old new = (new ≡ old) ⊎ (is_held (phase_of client new) ≡ false)

-- why these calls gave nothing
abbrev pub GivesUp : List Call → List ℕ → LineNow → LineNow → AskErr → Type 0
GivesUp calls client old new Fault =
    Fails client old new × ((rest : List Call) × AddsCalls calls rest true old.trail new.trail)
GivesUp calls client old new WantsMemory =
    IsStarved client old.trail new.trail
    × ((rest : List Call) × AddsCalls calls rest false old.trail new.trail)

-- ---- a put of its own lock, and a listing

-- the session may put its own lock now
pub record MayPutLock (kind : LockKind) (client : List ℕ) (trail : List Event) : Type 0 where
  pub stands : StandsIn client trail (phase_of client trail)
  pub allowed : allows client (phase_of client trail) (PutsOwn kind) ≡ true
  pub in_time : renews_in_time (phase_of client trail)
      (session_of client trail).now (PutsOwn kind) ≡ true

-- what a phase becomes by such a put
abbrev pub asking : LockKind → Phase → Phase
asking kind (Held own stamp) = Renewing own stamp
asking kind phase = Asked kind

-- the trail ends in a listing of the locks that was asked for in this phase
pub record HasAsked (client : List ℕ) (at : Phase) (trail : List Event)
    (listing : Listing) : Type 0 where
  pub before : List Event
  pub asked : StandsIn client before at
  pub ends : trail ≡ before ++ Called (ListDir Locks) (Listed listing) ∷ []
  pub shape : IsListing Locks listing
  pub stands : StandsIn client trail (heard client at ListsLocks (Listed listing))

-- what matters of a listing to a client that goes for a lease
abbrev pub sight_of : LockKind → List ℕ → Listing → Sight
sight_of kind client listing = record {
  now = listing.now;
  own = own_stamp kind client listing;
  blocking = blocking_in kind client listing;
}

-- what such a listing says
pub record HasSeen (kind : LockKind) (client : List ℕ) (at : Phase) (trail : List Event)
    (sight : Sight) : Type 0 where
  pub listing : Listing
  pub asked : HasAsked client at trail listing
  pub says : sight ≡ sight_of kind client listing

-- ---- its own lock is given up

-- its own lock was deleted, whatever was answered, and the session is over; out of memory it may
-- still be there
abbrev pub IsLeft : LockKind → List ℕ → LineNow → LineNow → Result (Unit {0}) AllocError → Type 0
IsLeft kind client old new (Ok done) =
    (reply : Reply)
    × (new.trail ≡ old.trail ++ Called (Delete (LockFile (own_name kind client))) reply ∷ [])
    × StandsIn client new.trail Over
IsLeft kind client old new (Err e) =
    GivesUp (Delete (LockFile (own_name kind client)) ∷ []) client old new WantsMemory
