-- What is asked of the clients of a log, by what they tell; and which trails they tell.
use Rattle.std.specs.Prelude.{ℕ, ◌+◌, ◌≤◌, ◌≡◌, List, [], ◌∷◌, All, slice_get, Option, Some, None}
use Rattle.call_log.specs.Agreeing.{answers_to}
use Rattle.call_log.specs.declared.entry.LogEntry.{LogEntry}
use Rattle.jop_target.specs.declared.event.Event.{Event}
use Rattle.jop_target.specs.declared.event.Event.TheVariants.{Made}
use Rattle.local_store.specs.declared.change.Change.{Change}
use Rattle.lease.specs.Discipline.{KeepsLocks}
use Rattle.target_upgrade.specs.Course.{KeepsVersions}
use Rattle.law_kept.specs.FairTables.{new_view}
use Rattle.law_licences.specs.Deeds.{Deed, deed_by}
use Rattle.law_licences.specs.Licences.{ObeysBySome}
use Rattle.run_premises.specs.Steps.{happening_of}
use Rattle.woven.specs.Weaving.{Clients, StandFor, ToldEvent, events_told}

-- ---- the clients of a log

-- no two seats have one id
abbrev pub AreApart : Clients → Type 0
AreApart clients =
    (a b : ℕ) → 1 ≤ a → a ≤ clients.count → 1 ≤ b → b ≤ clients.count →
    clients.id a ≡ clients.id b → a ≡ b

-- every entry is of one of the seats
abbrev pub AreSeated : Clients → List LogEntry → Type 0
AreSeated clients log = All (λ (e : LogEntry). (1 ≤ e.seat) × (e.seat ≤ clients.count)) log

-- each seat keeps its locks, and does under its leases what is allowed
abbrev pub DoObey : Clients → Type 0
DoObey clients =
    (k : ℕ) → 1 ≤ k → k ≤ clients.count →
    KeepsLocks (clients.id k) (events_told (clients.told k))
    × KeepsVersions (clients.id k) (events_told (clients.told k))

-- what a seat does
abbrev pub told_deed : ToldEvent → Deed
told_deed t = deed_by (happening_of t.event t.stands) t.change

abbrev pub deeds_told : List ToldEvent → List Deed
deeds_told [] = []
deeds_told (t ∷ ts) = told_deed t ∷ deeds_told ts

-- each seat has its licences, from new tables on, each session by some keys
abbrev pub AreLicensed : Clients → Type 0
AreLicensed clients =
    (k : ℕ) → 1 ≤ k → k ≤ clients.count → ObeysBySome new_view (deeds_told (clients.told k))

-- ---- trails

-- the change that an event of a trail tells, where the changes of its run are these
abbrev pub beside : List Change → Event → Option Change
beside made (Made number) = slice_get made number
beside made event = None

-- what is told is this trail, with such changes beside it, and stands for these entries
pub record TellsTrail (answers : List LogEntry) (trail : List Event)
    (with_change : Event → Option Change) (told : List ToldEvent) : Type 0 where
  pub events : events_told told ≡ trail
  pub changes : All (λ (t : ToldEvent). t.change ≡ with_change t.event) told
  pub stand : StandFor answers told

-- The seats from 1 on tell these trails, in their order, with such changes beside them; and what
-- each seat tells stands for what it was answered.
pub record AreTold {T : Type 0} (trail : T → List Event) (with_change : T → Event → Option Change)
    (log : List LogEntry) (trails : List T) (told : ℕ → List ToldEvent) : Type 0 where
  pub stand : (seat : ℕ) → StandFor (answers_to seat log) (told seat)
  pub each : (place : ℕ) (t : T) → slice_get trails place ≡ Some t →
      (events_told (told (place + 1)) ≡ trail t)
      × All (λ (u : ToldEvent). u.change ≡ with_change t u.event) (told (place + 1))
