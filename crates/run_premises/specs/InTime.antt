-- Whether a client writes before the end of its lease.
use Rattle.std.specs.Prelude.{ℕ, ◌+◌, ◌<◌, List, bytes_eq, Bool, false, ◌&&◌, not, nat_lt, Option, Some, None}
use Rattle.jop_base.specs.declared.lock_name.LockKind.{LockKind}
use Rattle.jop_target.specs.History.{History, Step, WritesAt, is_guarded_call, landed_call}
use Rattle.jop_target.specs.declared.call.Call.{Call}
use Rattle.lease.specs.Exclusion.{Holds}
use Rattle.lease.specs.Locks.{LIFE}
use Rattle.run_premises.specs.declared.phase.Phase.{Phase}
use Rattle.run_premises.specs.declared.phase.Phase.TheVariants.{Held}

-- whether a call that landed changes files other than locks and temporary ones
abbrev pub is_write : Option Call → Bool
is_write None = false
is_write (Some call) = is_guarded_call call

abbrev pub writes : Step → Bool
writes s = is_write (landed_call s.happens)

-- whether a client that stands in this phase writes at the end of its lease or behind it
abbrev pub is_late : Phase → Step → Bool
is_late (Held kind stamp) s = writes s && not (nat_lt s.moment (stamp + LIFE))
is_late phase s = false

-- whether this client does
abbrev pub is_late_by : List ℕ → Phase → Step → Bool
is_late_by client phase s = bytes_eq s.client client && is_late phase s

-- what the client writes at this place lands before the end of its lease
abbrev pub IsInTimeAt : History → List ℕ → ℕ → Type 0
IsInTimeAt h client place =
    (kind : LockKind) (stamp : ℕ) (write : WritesAt h place client) →
    Holds h place client kind stamp → write.step.moment < stamp + LIFE

-- all that the client writes does
abbrev pub IsTimelyFor : History → List ℕ → Type 0
IsTimelyFor h client = (place : ℕ) → IsInTimeAt h client place
