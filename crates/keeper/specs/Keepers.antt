-- What is asked of every keeper.
use Rattle.std.specs.Prelude.{ℕ, ◌≤◌, ◌≡◌, List, Option, Some, None, Result, Err, option_map}
use Rattle.jop_base.specs.Keyed.{at, put}
use Rattle.jop_outside.specs.Outside.{HasRisen}
use Rattle.keeper.specs.declared.blob.Blob.{Blob}
use Rattle.local_store.specs.declared.change.Change.{Change}
use Rattle.keeper.specs.declared.keeper_err.KeeperErr.{KeeperErr}
use Rattle.keeper.specs.declared.keeper_err.KeeperErr.TheVariants.{Fault}
use Rattle.local_store.specs.declared.tables.Tables.{Tables}
use Rattle.local_store.specs.Changing.{after}

abbrev pub blob_id : Blob → List ℕ
blob_id b = b.id

-- what is kept: tables, and the bytes of resources
pub record Kept : Type 0 where
  pub tables : Tables
  pub blobs : List Blob

-- a keeper at a moment: what it keeps, if it tells, and how often it has failed
pub record KeeperNow : Type 0 where
  pub kept : Option Kept
  pub faults : ℕ

-- the bytes of the resource of an id
abbrev pub blob_at : Kept → List ℕ → Option (List ℕ)
blob_at k id = option_map (λ b. b.bytes) (at blob_id k.blobs id)

-- what is kept after a change
abbrev pub changed : Change → Kept → Kept
changed change k = record k { tables = after k.tables change }

-- what is kept once these bytes are saved
abbrev pub with_saved_blob : List ℕ → List ℕ → Kept → Kept
with_saved_blob id bytes k =
    record k { blobs = put blob_id k.blobs (record { id = id; bytes = bytes }) }

-- the tables are those that are kept, if that is told
abbrev pub IsOfKept : Option Kept → Tables → Type 0
IsOfKept None tables = Unit {0}
IsOfKept (Some k) tables = tables ≡ k.tables

-- the bytes are those that are kept of the resource, if that is told
abbrev pub IsBlobOfKept : Option Kept → List ℕ → Option (List ℕ) → Type 0
IsBlobOfKept None id bytes = Unit {0}
IsBlobOfKept (Some k) id bytes = bytes ≡ blob_at k id

-- a count rises when its keeper fails, and stays at every other answer
pub record HasKeeperCause {T : Type 0} (before : ℕ) (result : Result T KeeperErr) (after : ℕ)
    : Type 0 where
  pub later : before ≤ after
  pub failed : result ≡ Err Fault → HasRisen before after
  pub stays : ¬ (result ≡ Err Fault) → after ≡ before
