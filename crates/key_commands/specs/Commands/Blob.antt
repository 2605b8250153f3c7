-- `blob`: the bytes of a resource, which are opened if they are sealed.
use Rattle.std.specs.Prelude.{ℕ, ◌≡◌, List, Bool, codes, Option, Some, None, Result, Ok, Err, if◌then◌else◌}
use Rattle.std.specs.Borrow.{Bor}
use Rattle.client.specs.Outside.{HasKeeperFailed, OutsideNow}
use Rattle.item_kinds.specs.declared.kind.Kind.{Kind}
use Rattle.item_text.specs.Props.{has_value}
use Rattle.item_text.specs.declared.item.Item.{Item}
use Rattle.keeper.specs.Keepers.{IsBlobOfKept}
use Rattle.key_commands.specs.Refusals.{opened_for}
use Rattle.key_commands.specs.declared.keys_err.KeysErr.{KeysErr}
use Rattle.key_commands.specs.declared.keys_err.KeysErr.TheVariants.{KeeperFault, ClockFault, EntropyFault, NotFound, NotOne, Sealed, NoMemory}
use Rattle.key_records.specs.SealedBytes.{opened_bytes}
use Rattle.local_commands.specs.TypedIds.{meant_id}
use Rattle.local_commands.specs.declared.start_count.StartCount.{StartCount}
use Rattle.local_commands.specs.declared.typed_id.TypedId.{TypedId}
use Rattle.local_store.specs.Rows.{has_kind, item_of}
use Rattle.local_store.specs.Tables.{row_at}
use Rattle.local_store.specs.declared.content.Content.{Content}
use Rattle.local_store.specs.declared.content.Content.TheVariants as contents
use Rattle.local_store.specs.declared.row.Row.{Row}
use Rattle.local_store.specs.declared.tables.Tables.{Tables}
use Rattle.sync_info.specs.declared.info.Info.{Info}

-- ---- the row

abbrev pub resource_kind : Kind
resource_kind = record { 0 = 4 }

-- the row of an id, which has to be a resource
abbrev pub resource_of : List ℕ → Option Row → Result Row KeysErr
resource_of id None = Err (NotFound id)
resource_of id (Some r) = if has_kind resource_kind (item_of r.content) then Ok r else Err (NotFound id)

abbrev pub resource_by : Tables → Result (List ℕ) StartCount → Result Row KeysErr
resource_by t (Ok id) = resource_of id (row_at t id)
resource_by t (Err count) = Err (NotOne count)

-- the resource that is meant
abbrev pub resource_meant : Tables → TypedId → Result Row KeysErr
resource_meant t typed = resource_by t (meant_id t typed)

-- the refusals for want of a resource
abbrev pub IsNoResource : KeysErr → Type 0
IsNoResource (NotFound id) = Unit {0}
IsNoResource (NotOne count) = Unit {0}
IsNoResource refusal = ⊥

-- the row is lent, or the refusal is this one
abbrev pub IsLentRow : Result Row KeysErr → Result (Bor Row) KeysErr → Type 0
IsLentRow due (Ok r) = due ≡ Ok r.now
IsLentRow due (Err e) = (due ≡ Err e) × IsNoResource e

-- ---- its bytes

-- whether an item says that its bytes are sealed
abbrev pub says_bytes_sealed : Item → Bool
says_bytes_sealed item = has_value (codes "encryption_blob_encrypted") (codes "1") item.props

-- the bytes as they are, or what they open to
abbrev pub shown_of : Info → Option (List ℕ) → List ℕ → Content → List ℕ → Result (List ℕ) KeysErr
shown_of info password id (contents.Sealed item) bytes = Err (Sealed id)
shown_of info password id (contents.Plain item) bytes =
    if says_bytes_sealed item then opened_for id (opened_bytes info password bytes) else Ok bytes

-- what is shown of a resource, whose bytes are these if any are kept
abbrev pub shown_bytes : Info → Option (List ℕ) → Row → Option (List ℕ) → Result (List ℕ) KeysErr
shown_bytes info password r None = Err (NotFound r.id)
shown_bytes info password r (Some bytes) = shown_of info password r.id r.content bytes

-- it is what is due, or memory ran out; nothing has failed
abbrev pub IsShownOr : Result (List ℕ) KeysErr → Result (List ℕ) KeysErr → Type 0
IsShownOr due (Ok bytes) = due ≡ Ok bytes
IsShownOr due (Err NoMemory) = Unit {0}
IsShownOr due (Err KeeperFault) = ⊥
IsShownOr due (Err ClockFault) = ⊥
IsShownOr due (Err EntropyFault) = ⊥
IsShownOr due (Err refusal) = due ≡ Err refusal

-- ---- the command

-- the answer is that of the bytes that are kept, and nothing else was used
pub record ShowsKept (r : Row) (info : Info) (password : Option (List ℕ)) (old : OutsideNow)
    (answer : Result (List ℕ) KeysErr) (new : OutsideNow) : Type 0 where
  pub bytes : Option (List ℕ)
  pub told : IsBlobOfKept old.keeper.kept r.id bytes
  pub due : shown_bytes info password r bytes ≡ answer
  pub same : new ≡ old

-- The bytes of a resource are looked for once it is found. The refusals come in this order: it isn't
-- one row that is meant, or no resource; no bytes are kept; the row is sealed; the bytes aren't opened.
abbrev pub ShowsRow : Result Row KeysErr → Info → Option (List ℕ) → OutsideNow → Result (List ℕ) KeysErr
    → OutsideNow → Type 0
ShowsRow (Err due) info password old (Err (NotFound id)) new = (due ≡ NotFound id) × (new ≡ old)
ShowsRow (Err due) info password old (Err (NotOne count)) new = (due ≡ NotOne count) × (new ≡ old)
ShowsRow (Err due) info password old result new = ⊥
ShowsRow (Ok r) info password old (Ok bytes) new = ShowsKept r info password old (Ok bytes) new
ShowsRow (Ok r) info password old (Err KeeperFault) new = HasKeeperFailed old new
ShowsRow (Ok r) info password old (Err NoMemory) new = new ≡ old
ShowsRow (Ok r) info password old (Err ClockFault) new = ⊥
ShowsRow (Ok r) info password old (Err EntropyFault) new = ⊥
ShowsRow (Ok r) info password old (Err refusal) new = ShowsKept r info password old (Err refusal) new

abbrev pub ShowsBlob : TypedId → Option (List ℕ) → Tables → OutsideNow → Result (List ℕ) KeysErr
    → OutsideNow → Type 0
ShowsBlob typed password t old result new =
    ShowsRow (resource_meant t typed) t.info password old result new
