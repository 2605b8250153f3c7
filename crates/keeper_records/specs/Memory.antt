-- A store of records in memory, and the keeper over it.
use Rattle.std.specs.Prelude.{ℕ, ◌≡◌, [], false, None, IsSome, Result, Err}
use Rattle.jop_base.specs.Keyed.{IsSorted}
use Rattle.jop_outside.specs.Plan.{Calls, after_call, next_fate, with_failing}
use Rattle.keeper.specs.declared.keeper_err.KeeperErr.{KeeperErr}
use Rattle.keeper.specs.declared.keeper_err.KeeperErr.TheVariants.{Fault}
use Rattle.keeper.specs.Keepers.{Kept, blob_id}
use Rattle.local_store.specs.Sound.{IsSound}
use Rattle.local_store.specs.Tables.{new_tables}

-- what it keeps, how often it has failed, and which calls are to fail
pub record MemKept : Type 0 where
  pub kept : Kept
  pub faults : ℕ
  pub plan : Calls

-- the tables are sound, and the blobs stand in the order of their ids, each id once
pub record IsSoundKept (k : Kept) : Type 0 where
  pub tables : IsSound k.tables
  pub blobs : IsSorted blob_id k.blobs

-- new tables, no blobs, and no call is to fail
abbrev pub new_memory : MemKept
new_memory = record {
  kept = record { tables = new_tables; blobs = [] };
  faults = 0;
  plan = record { made = 0; failing = [] };
}

-- the same, and the call of this number is to fail
abbrev pub failing_at : ℕ → MemKept → MemKept
failing_at nth m = record m { plan = with_failing m.plan nth false }

-- the call is counted, and fails exactly if that was planned
pub record IsPlanned {T : Type 0} (before : Calls) (result : Result T KeeperErr) (after : Calls) : Type 0 where
  pub counted : after ≡ after_call before
  pub failed : result ≡ Err Fault → IsSome (next_fate before)
  pub well : ¬ (result ≡ Err Fault) → next_fate before ≡ None
