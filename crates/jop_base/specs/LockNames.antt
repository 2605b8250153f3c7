-- The names of locks.
use Rattle.std.specs.Prelude.{ℕ, ◌+◌, ◌≤◌, List, ◌∷◌, ◌++◌, codes}
use Rattle.jop_base.specs.Id.{IsIdText}
use Rattle.jop_base.specs.declared.lock_name.LockKind.{LockKind}
use Rattle.jop_base.specs.declared.lock_name.LockKind.TheVariants.{Sync, Exclusive}

-- the name of a lock
pub record Name : Type 0 where
  pub kind : LockKind
  pub client_type : ℕ
  pub client : List ℕ

-- what every name keeps
pub record IsName (name : Name) : Type 0 where
  pub client_type : name.client_type ≤ 9
  pub client : IsIdText name.client

-- the digit of a kind of lock, as a byte
abbrev pub kind_digit : LockKind → ℕ
kind_digit Sync = 49
kind_digit Exclusive = 50

-- the name of a lock's file: `<type>_<clientType>_<clientId>.json`
abbrev pub file_name : Name → List ℕ
file_name name =
    kind_digit name.kind ∷ 95 ∷ (48 + name.client_type) ∷ 95 ∷ (name.client ++ codes ".json")
