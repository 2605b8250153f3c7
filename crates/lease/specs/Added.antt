-- The calls that a lease makes by itself, and how far they came.
use Rattle.std.specs.Prelude.{ℕ, List, [], ◌∷◌, ◌++◌, ◌≡◌, Result, Ok, Err, Bool, true, false}
use Rattle.jop_base.specs.declared.dir.Dir.TheVariants.{Locks}
use Rattle.jop_base.specs.declared.lock_name.LockKind.{LockKind}
use Rattle.jop_base.specs.declared.path.Path.TheVariants.{Lock as LockFile}
use Rattle.jop_target.specs.declared.call.Call.{Call}
use Rattle.jop_target.specs.declared.call.Call.TheVariants.{List as ListDir, Put, Delete, MakeDir}
use Rattle.jop_target.specs.declared.event.Event.{Event}
use Rattle.jop_target.specs.declared.event.Event.TheVariants.{Sent, Called}
use Rattle.jop_target.specs.Runs.{has_failed}
use Rattle.lease.specs.declared.error.LeaseErr.{LeaseErr}
use Rattle.lease.specs.declared.error.LeaseErr.TheVariants.{Busy, Lost, TargetFault, NoMemory}
use Rattle.lease.specs.Locks.{own_name, content_of}

-- ---- which calls

abbrev pub look_calls : List Call
look_calls = MakeDir Locks ∷ ListDir Locks ∷ []

abbrev pub put_calls : LockKind → List ℕ → List Call
put_calls kind client =
    Put (LockFile (own_name kind client)) (content_of kind client) ∷ ListDir Locks ∷ []

abbrev pub leave_calls : LockKind → List ℕ → List Call
leave_calls kind client = Delete (LockFile (own_name kind client)) ∷ []

-- to take a lease: the folder of locks is made and listed, its own lock is put, the folder is
-- listed again, and at most the lock is deleted again
abbrev pub acquire_calls : LockKind → List ℕ → List Call
acquire_calls kind client = look_calls ++ (put_calls kind client ++ leave_calls kind client)

-- to renew one: its own lock is put again, the folder is listed, and at most the lock is deleted
abbrev pub renew_calls : LockKind → List ℕ → List Call
renew_calls kind client = put_calls kind client ++ leave_calls kind client

-- ---- what stands in a trail

abbrev pub with_called : Event → List Call → List Call
with_called (Sent call) calls = call ∷ calls
with_called (Called call reply) calls = call ∷ calls
with_called event calls = calls

-- the calls of events, in their order
unfoldable pub calls_in : List Event → List Call
calls_in [] = []
calls_in (e ∷ es) = with_called e (calls_in es)

-- The trail has grown by the first of these calls, each made once and in their order; the rest was
-- not made. It is known whether one of them was answered `Failed`.
pub record AddsCalls (calls rest : List Call) (failed : Bool) (old new : List Event) : Type 0 where
  pub more : List Event
  pub trail : new ≡ old ++ more
  pub order : calls ≡ calls_in more ++ rest
  pub fails : has_failed more ≡ failed

-- These calls were made, as far as it came. With a lease, and out of memory, none of them was
-- answered `Failed`.
abbrev pub Makes : {T : Type 0} → List Call → List Event → List Event → Result T LeaseErr → Type 0
Makes calls old new (Ok value) = (rest : List Call) × AddsCalls calls rest false old new
Makes calls old new (Err NoMemory) = (rest : List Call) × AddsCalls calls rest false old new
Makes calls old new (Err TargetFault) = (rest : List Call) × AddsCalls calls rest true old new
Makes calls old new (Err (Busy lock now)) =
    (rest : List Call) × (failed : Bool) × AddsCalls calls rest failed old new
Makes calls old new (Err (Lost seen)) =
    (rest : List Call) × (failed : Bool) × AddsCalls calls rest failed old new
