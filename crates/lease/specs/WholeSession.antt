-- A session in a trail, from its begin to its end.
use Rattle.std.specs.Prelude.{ℕ, ◌≡◌, ◌⊎◌, List, [], ◌∷◌, ◌++◌, All}
use Rattle.jop_target.specs.declared.event.Event.{Event}
use Rattle.jop_target.specs.declared.event.Event.TheVariants.{Began, Ended}
use Rattle.lease.specs.Discipline.{ObeysLocks}

-- an event within a session, which neither begins nor ends one
abbrev pub IsInner : Event → Type 0
IsInner Began = ⊥
IsInner Ended = ⊥
IsInner event = Unit {0}

-- One session was added to the trail: it began, went on by events as P says, and ended; it obeys
-- the lock discipline.
pub record AddsWhole (P : Event → Type 0) (client : List ℕ) (old new : List Event) : Type 0 where
  pub middle : List Event
  pub trail : new ≡ old ++ Began ∷ (middle ++ Ended ∷ [])
  pub each : All P middle
  pub obeys : ObeysLocks client (Began ∷ (middle ++ Ended ∷ []))

-- Nothing was added, or such a session that hasn't ended.
pub record AddsBegun (P : Event → Type 0) (client : List ℕ) (old new : List Event) : Type 0 where
  pub more : List Event
  pub trail : new ≡ old ++ more
  pub begun : (more ≡ []) ⊎ ((middle : List Event) × (more ≡ Began ∷ middle) × All P middle)
  pub obeys : ObeysLocks client more
