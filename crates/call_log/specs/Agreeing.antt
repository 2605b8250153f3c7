-- When a shared store's log agrees with the trail of a client: what the store has answered to the
-- client's seat, beside what the client has written down.
use Rattle.std.specs.Prelude.{ℕ, ◌+◌, ◌≡◌, ◌⊎◌, List, [], ◌∷◌, Bool, true, false, not, ◌&&◌, nat_eq, length, slice_get, Some}
use Rattle.std.specs.List.{filter}
use Rattle.jop_target.specs.Runs.{is_failed}
use Rattle.jop_target.specs.declared.event.Event.{Event}
use Rattle.jop_target.specs.declared.event.Event.TheVariants.{Sent, Called}
use Rattle.call_log.specs.declared.entry.LogEntry.{LogEntry}

-- ---- the entries of a seat

-- whether the entry is of that seat, and its call didn't fail
abbrev pub is_answer_to : ℕ → LogEntry → Bool
is_answer_to seat e = nat_eq e.seat seat && not (is_failed e.reply)

-- what a seat was answered: the entries of its calls that didn't fail, in order
abbrev pub answers_to : ℕ → List LogEntry → List LogEntry
answers_to seat log = filter (is_answer_to seat) log

-- an entry as its client writes it down
abbrev pub entry_event : LogEntry → Event
entry_event e = Called e.call e.reply

-- ---- the events of a trail

-- Whether an event may stand for no entry: all but a call that was answered. A call that failed
-- has no entry among the answers, and one whose reply was never heard may have been made or not.
abbrev pub may_stand_alone : Event → Bool
may_stand_alone (Called call reply) = is_failed reply
may_stand_alone event = true

-- an event that may stand for this entry: its call with its reply, or its call whose reply was
-- never heard
abbrev pub MayStandFor : Event → LogEntry → Type 0
MayStandFor (Called call reply) e = (is_failed reply ≡ false) × (e.call ≡ call) × (e.reply ≡ reply)
MayStandFor (Sent call) e = e.call ≡ call
MayStandFor event e = ⊥

-- the event may stand for the entry at a place, counted from 0
abbrev pub MayStandAt : List LogEntry → Event → ℕ → Type 0
MayStandAt answers event place =
    (e : LogEntry) × (slice_get answers place ≡ Some e) × MayStandFor event e

-- the event leads from a place to the same one, where it stands for no entry, or to the next
abbrev pub LeadsOn : List LogEntry → Event → ℕ → ℕ → Type 0
LeadsOn answers event from to =
    ((may_stand_alone event ≡ true) × (to ≡ from))
    ⊎ (MayStandAt answers event from × (to ≡ from + 1))

-- the events lead from one place among the answers to another
unfoldable pub LeadsThrough : List LogEntry → ℕ → List Event → ℕ → Type 0
LeadsThrough answers from [] to = to ≡ from
LeadsThrough answers from (event ∷ events) to =
    (mid : ℕ) × LeadsOn answers event from mid × LeadsThrough answers mid events to

-- The trail leads through all that the seat was answered. So these are, in order, its calls that
-- were answered with their replies; and for a call whose reply was never heard there is one entry
-- of that call, or none.
abbrev pub AgreesWithLog : List LogEntry → ℕ → List Event → Type 0
AgreesWithLog log seat trail =
    LeadsThrough (answers_to seat log) 0 trail (length (answers_to seat log))
