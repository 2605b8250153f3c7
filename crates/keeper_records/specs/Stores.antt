-- What is asked of every store of records.
use Rattle.std.specs.Prelude.{ℕ, ◌≡◌, ◌⊎◌, List, true, false, Option, Some, None, option_and_then, Result, Err, IsSome}
use Rattle.std.specs.List.{list_all}
use Rattle.jop_outside.specs.Plan.{Calls, after_call, next_fate}
use Rattle.local_store.specs.declared.change.Change.{Change}
use Rattle.keeper.specs.declared.keeper_err.KeeperErr.{KeeperErr}
use Rattle.keeper.specs.declared.keeper_err.KeeperErr.TheVariants.{Fault}
use Rattle.local_store.specs.declared.row.Row.{Row}
use Rattle.local_store.specs.declared.tables.Tables.{Tables}
use Rattle.keeper.specs.Keepers.{Kept}
use Rattle.local_store.specs.Changing.{after}
use Rattle.local_store.specs.Sound.{IsSoundRow}
use Rattle.local_store.specs.Tables.{row_at}
use Rattle.keeper_records.specs.declared.write.Write.{Write}
use Rattle.keeper_records.specs.Making.{row_needed, needs_number, writes_of}
use Rattle.keeper_records.specs.Writes.{has_room, after_writes, all_fit}

-- ---- what a store answers

-- a row that is there is sound, and has this id
abbrev pub IsSoundRowOf : List ℕ → Option Row → Type 0
IsSoundRowOf id None = Unit {0}
IsSoundRowOf id (Some r) = (r.id ≡ id) × IsSoundRow r

-- the row is that of the id in the tables that are kept, if that is told
abbrev pub IsRowOfKept : Option Kept → List ℕ → Option Row → Type 0
IsRowOfKept None id row = Unit {0}
IsRowOfKept (Some k) id row = row ≡ row_at k.tables id

-- the number is that of the next conflict note in the tables that are kept, if that is told
abbrev pub IsNextOfKept : Option Kept → ℕ → Type 0
IsNextOfKept None number = Unit {0}
IsNextOfKept (Some k) number = number ≡ k.tables.next_conflict

-- each new conflict note has a number that a database holds and, if the tables are told, that no other note has
abbrev pub Fit : Option Kept → List Write → Type 0
Fit None ws = list_all has_room ws ≡ true
Fit (Some k) ws = all_fit k.tables ws ≡ true

-- ---- what a change needs

-- the row that was asked for, if one was, is sound and has the id that was asked for
abbrev pub IsSoundRowFor : Option (List ℕ) → Option Row → Type 0
IsSoundRowFor None row = row ≡ None
IsSoundRowFor (Some id) row = IsSoundRowOf id row

-- the row is the one that the change needs, if the tables are told
abbrev pub IsRowFor : Option Kept → Change → Option Row → Type 0
IsRowFor None change row = Unit {0}
IsRowFor (Some k) change row = row ≡ option_and_then (row_at k.tables) (row_needed change)

-- the number is the one that the change needs, if it needs one and the tables are told
abbrev pub IsNumberFor : Option Kept → Change → ℕ → Type 0
IsNumberFor None change number = Unit {0}
IsNumberFor (Some k) change number = needs_number change ≡ true → number ≡ k.tables.next_conflict

-- the writes of a change make it, if the row and the number are those that it needs
abbrev pub MakesChange : Tables → Change → ℕ → Type 0
MakesChange t change number =
    let row = option_and_then (row_at t) (row_needed change) in
    (needs_number change ≡ true → number ≡ t.next_conflict)
    → after_writes t (writes_of change row number) ≡ after t change

-- ---- a store in memory

-- the call is counted, and fails exactly if that was planned or a write doesn't fit
pub record IsPlannedWrite {T : Type 0} (tables : Tables) (ws : List Write) (before : Calls)
    (result : Result T KeeperErr) (after : Calls) : Type 0 where
  pub counted : after ≡ after_call before
  pub failed : result ≡ Err Fault → IsSome (next_fate before) ⊎ (all_fit tables ws ≡ false)
  pub well : ¬ (result ≡ Err Fault) → next_fate before ≡ None
