-- Ids that no row and no deletion has.
use Rattle.std.specs.Prelude.{ℕ, ◌≡◌, ◌+◌, ◌%◌, ◌^◌, ◌<◌, List, Bool, true, false, ◌||◌, is_some}
use Rattle.jop_base.specs.Id.{IsIdText, number_of}
use Rattle.local_store.specs.declared.tables.Tables.{Tables}
use Rattle.local_store.specs.Tables.{row_at, deletion_at}

-- a row or a deletion has the id
abbrev pub is_taken : Tables → List ℕ → Bool
is_taken t id = is_some (row_at t id) || is_some (deletion_at t id)

-- the id that so many steps lead to: its number is so much greater, and after the greatest comes 0
pub record IsIdAfter (from : List ℕ) (steps : ℕ) (id : List ℕ) : Type 0 where
  pub text : IsIdText id
  pub number : number_of id ≡ (number_of from + steps) % 16 ^ 32

-- the id is free, and each on the way to it is taken
pub record IsFirstFree (t : Tables) (drawn id : List ℕ) : Type 0 where
  pub steps : ℕ
  pub there : IsIdAfter drawn steps id
  pub free : is_taken t id ≡ false
  pub first : (n : ℕ) (other : List ℕ) → n < steps → IsIdAfter drawn n other
      → is_taken t other ≡ true
