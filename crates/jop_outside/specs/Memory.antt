-- Streams and random bytes in memory.
use Rattle.std.specs.Prelude.{ℕ, List}
use Rattle.jop_outside.specs.Plan.{Calls}

-- the bytes that are still to be given, how often that has failed, and which calls are to fail
pub record GivenBytes : Type 0 where
  pub left : List ℕ
  pub faults : ℕ
  pub plan : Calls

-- the bytes that were taken, how often that has failed, how often for want of memory alone, and which calls are to fail
pub record TakenBytes : Type 0 where
  pub written : List ℕ
  pub faults : ℕ
  pub starved : ℕ
  pub plan : Calls
