-- A history of all clients, as code has it.
use Rattle.std.specs.Prelude.{ℕ, ◌≡◌, List, map, slice_get, Bool, Some}
use Rattle.jop_target.specs.History.{Happening, Begins, Answered, Unheard, Changed, Ends, History, Step}
use Rattle.jop_target.specs.declared.event.Event.{Event}
use Rattle.jop_target.specs.declared.event.Event.TheVariants.{Began, Sent, Called, Made, Ended}
use Rattle.jop_target.specs.declared.tree.Tree.{Tree}
use Rattle.run_premises.specs.declared.run_step.RunStep.{RunStep}

-- what happens where an event of a trail stands, whose call landed or didn't
abbrev pub happening_of : Event → Bool → Happening
happening_of Began landed = Begins
happening_of (Sent call) landed = Unheard call landed
happening_of (Called call reply) landed = Answered call reply landed
happening_of (Made number) landed = Changed number
happening_of Ended landed = Ends

-- the step of a history
abbrev pub history_step : RunStep → Step
history_step s = record {
  client = s.client.now;
  moment = s.moment;
  happens = happening_of s.event.now s.landed;
}

-- the history of these steps, from a tree on
abbrev pub run_history : Tree → List RunStep → History
run_history tree steps = record { opening = tree; steps = map history_step steps }

-- each step is of one of these clients
abbrev pub AreOf : List (List ℕ) → List RunStep → Type 0
AreOf clients steps =
    (place : ℕ) (s : RunStep) → slice_get steps place ≡ Some s →
    (k : ℕ) × (slice_get clients k ≡ Some s.client.now)
