-- Whether the last session of a trail goes on, and the room that its end needs.
use Rattle.std.specs.Prelude.{ℕ, ◌+◌, ◌≤◌, ◌≡◌, List, [], ◌∷◌, Bool, true, false}
use Rattle.jop_target.specs.declared.event.Event.{Event}
use Rattle.jop_target.specs.declared.event.Event.TheVariants.{Began, Ended}
use Rattle.jop_target.specs.Trail.{last_moment}

-- whether a session goes on behind an event
abbrev pub runs_after : Bool → Event → Bool
runs_after runs Began = true
runs_after runs Ended = false
runs_after runs event = runs

unfoldable pub runs_from : Bool → List Event → Bool
runs_from runs [] = runs
runs_from runs (e ∷ es) = runs_from (runs_after runs e) es

-- whether the last session of a trail goes on: it has begun, and has not ended
abbrev pub is_running : List Event → Bool
is_running trail = runs_from false trail

-- What a diary knows beside its events: the last moment that its last session was told; and while
-- that session goes on, it has room for one event more, so that the end can't be refused.
pub record DiaryKnows (events : List Event) (heard len capacity : ℕ) : Type 0 where
  pub told : heard ≡ last_moment events
  pub spare : is_running events ≡ true → len + 1 ≤ capacity
