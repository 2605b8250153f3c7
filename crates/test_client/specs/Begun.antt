-- A session that has just begun.
use Rattle.std.specs.Prelude.{◌≡◌, List, [], ◌∷◌, ◌++◌}
use Rattle.jop_target.specs.declared.event.Event.{Event}
use Rattle.jop_target.specs.declared.event.Event.TheVariants.{Began}

-- the trail ends where a session begins
pub record EndsAtBeginning (trail : List Event) : Type 0 where
  pub before : List Event
  pub is : trail ≡ before ++ Began ∷ []
