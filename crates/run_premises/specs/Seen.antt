-- Where a session stands with its lease, as code has it: of a listing it keeps no more than which
-- locks it lets the client put.
use Rattle.std.specs.Prelude.{ℕ, List, Bool, true, false, is_none, Option, Some, None}
use Rattle.jop_base.specs.declared.lock_name.LockKind.{LockKind}
use Rattle.jop_base.specs.declared.lock_name.LockKind.TheVariants.{Sync, Exclusive}
use Rattle.jop_target.specs.declared.reply.Reply.{Reply}
use Rattle.jop_target.specs.declared.reply.Reply.TheVariants.{Listed, Done, Failed}
use Rattle.lease.specs.Locks.{blocking_in, same_kind}
use Rattle.lease.specs.Phase as lease
use Rattle.run_premises.specs.declared.phase.Phase.{Phase}
use Rattle.run_premises.specs.declared.phase.Phase.TheVariants.{Free, Looked, Asked, Held, Renewing, Leaving, Over, Broken}
use Rattle.run_premises.specs.declared.role.Role.{Role}
use Rattle.run_premises.specs.declared.role.Role.TheVariants.{MakesLocks, ListsLocks, PutsOwn, DeletesOwn, Plain, Foreign}

-- what a call is for a client, by the lease's name for it
abbrev pub role_as : Role → lease.Role
role_as MakesLocks = lease.MakesLocks
role_as ListsLocks = lease.ListsLocks
role_as (PutsOwn kind) = lease.PutsOwn kind
role_as (DeletesOwn kind) = lease.DeletesOwn kind
role_as Plain = lease.Plain
role_as Foreign = lease.Foreign

-- the lease's phase, as code has it
abbrev pub seen_phase : List ℕ → lease.Phase → Phase
seen_phase client lease.Free = Free
seen_phase client (lease.Looked listing) =
    Looked (is_none (blocking_in Sync client listing))
    (is_none (blocking_in Exclusive client listing))
seen_phase client (lease.Asked kind) = Asked kind
seen_phase client (lease.Held kind stamp) = Held kind stamp
seen_phase client (lease.Renewing kind stamp) = Renewing kind stamp
seen_phase client (lease.Leaving kind) = Leaving kind
seen_phase client lease.Over = Over
seen_phase client lease.Broken = Broken

-- ---- the lease's rules over what code has

abbrev pub may_put : LockKind → Bool → Bool → Bool
may_put Sync sync exclusive = sync
may_put Exclusive sync exclusive = exclusive

-- whether a phase allows a call
abbrev pub may : Phase → lease.Role → Bool
may Free lease.MakesLocks = true
may Free lease.ListsLocks = true
may (Looked sync exclusive) (lease.PutsOwn kind) = may_put kind sync exclusive
may (Asked kind) lease.ListsLocks = true
may (Held kind stamp) (lease.PutsOwn own) = same_kind kind own
may (Held kind stamp) (lease.DeletesOwn own) = same_kind kind own
may (Held kind stamp) lease.MakesLocks = true
may (Held kind stamp) lease.Plain = true
may (Renewing kind stamp) lease.ListsLocks = true
may (Leaving kind) (lease.DeletesOwn own) = same_kind kind own
may phase role = false

-- what a phase becomes by an allowed call and its reply
abbrev pub after_reply : List ℕ → Phase → lease.Role → Reply → Phase
after_reply client phase role Failed = Over
after_reply client Free lease.MakesLocks (Done now) = Free
after_reply client Free lease.ListsLocks (Listed listing) =
    seen_phase client (lease.Looked listing)
after_reply client (Looked sync exclusive) (lease.PutsOwn kind) (Done now) = Asked kind
after_reply client (Asked kind) lease.ListsLocks (Listed listing) =
    seen_phase client (lease.asked_phase kind client listing)
after_reply client (Held kind stamp) (lease.PutsOwn own) (Done now) = Renewing kind stamp
after_reply client (Held kind stamp) (lease.DeletesOwn own) reply = Over
after_reply client (Held kind stamp) lease.MakesLocks reply = Held kind stamp
after_reply client (Held kind stamp) lease.Plain reply = Held kind stamp
after_reply client (Renewing kind stamp) lease.ListsLocks (Listed listing) =
    seen_phase client (lease.renewed_phase kind stamp client listing)
after_reply client (Leaving kind) (lease.DeletesOwn own) reply = Over
after_reply client phase role reply = Broken

-- a lease is held from that stamp on if its own lock is shown in time, and no lock is in its way
abbrev pub listed : LockKind → Option ℕ → Bool → Phase
listed kind None is_free = Leaving kind
listed kind (Some stamp) true = Held kind stamp
listed kind (Some stamp) false = Leaving kind
