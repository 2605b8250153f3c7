-- Whether a session can go on without a key.
use Rattle.std.specs.Prelude.{ℕ, ◌≡◌, List, Bool, true, false, ◌&&◌, Option, Some, None, length, filter}
use Rattle.std.specs.List.{list_any}
use Rattle.conflicts.specs.declared.refusal.Refusal.{Refusal}
use Rattle.conflicts.specs.declared.refusal.Refusal.TheVariants.{NoKey}
use Rattle.jop_base.specs.Id.{IsIdText}
use Rattle.local_store.specs.declared.content.Content.{Content}
use Rattle.local_store.specs.declared.content.Content.TheVariants.{Plain, Sealed}
use Rattle.local_store.specs.declared.row.Row.{Row}
use Rattle.local_store.specs.declared.tables.Tables.{Tables}

-- whether one of these rows waits to be uploaded
abbrev pub has_waiting : List Row → Bool
has_waiting rows = list_any (λ (r : Row). r.pending) rows

-- files are to be sealed and something waits to be uploaded, so a key is needed, and none is known here
abbrev pub needs_key : Tables → Bool
needs_key t = t.info.e2ee.value && has_waiting t.rows

-- the key that the info names
abbrev pub IsActiveKey : List ℕ → Option (List ℕ) → Type 0
IsActiveKey name (Some id) = (id ≡ name) × IsIdText name
IsActiveKey name None = ¬ IsIdText name

-- Why a session can't go on with the keys of these tables. `NoKey`: one is needed, and none is known; it is the one
-- that the info names.
abbrev pub RefusesKeys : Refusal → Tables → Type 0
RefusesKeys (NoKey key) t = (needs_key t ≡ true) × IsActiveKey t.info.active.value key
RefusesKeys why t = ⊥

-- or that it can
abbrev pub RefusesKeysOr : Tables → Option Refusal → Type 0
RefusesKeysOr t (Some why) = RefusesKeys why t
RefusesKeysOr t None = needs_key t ≡ false

abbrev pub is_sealed : Content → Bool
is_sealed (Plain item) = false
is_sealed (Sealed item) = true

-- how many rows are sealed
abbrev pub sealed_rows : Tables → ℕ
sealed_rows t = length (filter (λ (r : Row). is_sealed r.content) t.rows)
