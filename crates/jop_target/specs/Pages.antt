use Rattle.std.specs.Prelude.{ℕ, List}
use Rattle.jop_target.specs.declared.event.Event.{Event}

-- what a diary holds, and how many events more it takes without memory, beside the end of a session
pub record Pages : Type 0 where
  pub events : List Event
  pub room : ℕ
