-- A target over a link.
use Rattle.std.specs.Prelude.{ℕ, List, Bool}

-- its link, the host and port that each request names, whether the next call goes on with the link as it is, and how
-- often it has failed
pub record ClientOver (L : Type 0) : Type 0 where
  pub link : L
  pub host : List ℕ
  pub ready : Bool
  pub faults : ℕ
