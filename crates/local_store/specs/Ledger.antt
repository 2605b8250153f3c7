use Rattle.std.specs.Prelude.{ℕ, List}
use Rattle.local_store.specs.declared.change.Change.{Change}

-- the changes that were made, and how many more are taken without memory
pub record Ledger : Type 0 where
  pub changes : List Change
  pub room : ℕ
