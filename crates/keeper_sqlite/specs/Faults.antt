-- What becomes of an answer of the database.
use Rattle.std.specs.Prelude.{ℕ, ◌≡◌, Result, Ok, Err}
use Rattle.jop_outside.specs.Outside.{risen}
use Rattle.keeper.specs.declared.keeper_err.KeeperErr.{KeeperErr}
use Rattle.keeper.specs.declared.keeper_err.KeeperErr.TheVariants.{Fault, NoMemory}
use Rattle.keeper_file.specs.declared.trouble.Trouble.{Trouble}
use Rattle.keeper_file.specs.declared.trouble.Trouble.TheVariants as trouble

-- An answer stays as it is. A fault raises the count, and so does a file that is in use; nothing
-- else does.
abbrev pub IsCounted : {T : Type 0} → ℕ → Result T Trouble → Result T KeeperErr → ℕ → Type 0
IsCounted before (Ok value) result after = (result ≡ Ok value) × (after ≡ before)
IsCounted before (Err trouble.Fault) result after = (result ≡ Err Fault) × (after ≡ risen before)
IsCounted before (Err trouble.Busy) result after = (result ≡ Err Fault) × (after ≡ risen before)
IsCounted before (Err trouble.NoMemory) result after = (result ≡ Err NoMemory) × (after ≡ before)
