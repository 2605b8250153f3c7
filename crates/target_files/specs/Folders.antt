-- What a target over a folder tells of itself.
use Rattle.std.specs.Prelude.{ℕ}

-- how often it has failed; at the end of 64 bits the count stays
pub record FolderNow : Type 0 where
  pub faults : ℕ
