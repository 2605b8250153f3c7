-- How the log of a shared store and the trails of its clients become one history.
use Rattle.std.specs.Prelude.{ℕ, zero, suc, ◌≡◌, ◌⊎◌, List, [], ◌∷◌, ◌++◌, Bool, true, false, if◌then◌else◌, nat_eq, Option}
use Rattle.call_log.specs.Agreeing.{MayStandFor, answers_to, may_stand_alone}
use Rattle.call_log.specs.declared.entry.LogEntry.{LogEntry}
use Rattle.jop_target.specs.Runs.{is_failed}
use Rattle.jop_target.specs.declared.event.Event.{Event}
use Rattle.jop_target.specs.declared.tree.Tree.{Tree}
use Rattle.local_store.specs.Tale.{Tale, TaleStep}
use Rattle.local_store.specs.declared.change.Change.{Change}
use Rattle.run_premises.specs.Steps.{happening_of}

-- ---- what the clients tell

-- an event of a trail, the change that is made there, if one is, and whether it stands for an entry
-- of the log
pub record ToldEvent : Type 0 where
  pub event : Event
  pub change : Option Change
  pub stands : Bool

abbrev pub events_told : List ToldEvent → List Event
events_told [] = []
events_told (t ∷ ts) = t.event ∷ events_told ts

-- the clients of a log: how many there are, the id of each seat from 1 on, and what each tells
pub record Clients : Type 0 where
  pub count : ℕ
  pub id : ℕ → List ℕ
  pub told : ℕ → List ToldEvent

-- What is told stands for these entries, one after the other: what stands for one may do so, and
-- what stands for none may do so.
unfoldable pub StandFor : List LogEntry → List ToldEvent → Type 0
StandFor [] [] = Unit {0}
StandFor (e ∷ es) [] = ⊥
StandFor [] (t ∷ ts) = (t.stands ≡ false) × (may_stand_alone t.event ≡ true) × StandFor [] ts
StandFor (e ∷ es) (t ∷ ts) =
    ((t.stands ≡ false) × (may_stand_alone t.event ≡ true) × StandFor (e ∷ es) ts)
    ⊎ ((t.stands ≡ true) × MayStandFor t.event e × StandFor es ts)

-- what each seat tells stands for what it was answered
abbrev pub DoAgree : Clients → List LogEntry → Type 0
DoAgree clients log = (seat : ℕ) → StandFor (answers_to seat log) (clients.told seat)

-- ---- steps

-- a step of the history: a call landed if it stands for an entry
abbrev pub told_step : List ℕ → ℕ → ToldEvent → TaleStep
told_step client moment t = record {
  step = record { client = client; moment = moment; happens = happening_of t.event t.stands };
  change = t.change;
}

-- what a client does up to its next entry
abbrev pub before_next : List ℕ → ℕ → List ToldEvent → List TaleStep
before_next client moment [] = []
before_next client moment (t ∷ ts) =
    if t.stands then [] else told_step client moment t ∷ before_next client moment ts

-- and what it does from there on
abbrev pub from_next : List ToldEvent → List ToldEvent
from_next [] = []
from_next (t ∷ ts) = if t.stands then t ∷ ts else from_next ts

-- another list for one seat
abbrev pub with_told : (ℕ → List ToldEvent) → ℕ → List ToldEvent → ℕ → List ToldEvent
with_told told seat ts other = if nat_eq other seat then ts else told other

abbrev pub rest_told : List ToldEvent → List ToldEvent
rest_told [] = []
rest_told (t ∷ ts) = ts

abbrev pub first_step : List ℕ → ℕ → List ToldEvent → List TaleStep
first_step client moment [] = []
first_step client moment (t ∷ ts) = told_step client moment t ∷ []

-- each entry that was answered, and behind it what its client does up to the next one, at the
-- entry's moment
unfoldable pub log_steps : (ℕ → List ℕ) → (ℕ → List ToldEvent) → List LogEntry → List TaleStep
log_steps id told [] = []
log_steps id told (e ∷ es) =
    if is_failed e.reply then log_steps id told es
    else first_step (id e.seat) e.moment (told e.seat)
    ++ (before_next (id e.seat) e.moment (rest_told (told e.seat))
    ++ log_steps id (with_told told e.seat (from_next (rest_told (told e.seat)))) es)

-- what all clients do before their first entries, at moment 0, in the order of their seats, of which
-- this is the last
unfoldable pub opening_steps : (ℕ → List ℕ) → (ℕ → List ToldEvent) → ℕ → List TaleStep
opening_steps id told zero = []
opening_steps id told (suc n) =
    opening_steps id told n ++ before_next (id (suc n)) 0 (told (suc n))

-- ---- the history

-- The history of all clients: it begins with what each does before its first entry. Entries of calls
-- that failed are left out.
abbrev pub weave : Tree → List LogEntry → Clients → Tale
weave tree log clients = record {
  opening = tree;
  steps = opening_steps clients.id clients.told clients.count
      ++ log_steps clients.id (λ seat. from_next (clients.told seat)) log;
}
