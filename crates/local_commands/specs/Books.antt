-- A notebook that is asked for.
use Rattle.std.specs.Prelude.{ℕ, zero, suc, ◌≡◌, List, Bool, true, false, bytes_eq, codes, Option, Some, None, option_map, if◌then◌else◌}
use Rattle.item_text.specs.Props.{value_of}
use Rattle.jop_base.specs.Id.{is_id}
use Rattle.local_changes.specs.Lookup.{folder_kind, is_row_of}
use Rattle.local_store.specs.Rows.{item_of}
use Rattle.local_store.specs.Tables.{row_at}
use Rattle.local_store.specs.declared.row.Row.{Row}
use Rattle.local_store.specs.declared.tables.Tables.{Tables}
use Rattle.local_commands.specs.declared.local_err.LocalErr.{LocalErr}
use Rattle.local_commands.specs.declared.local_err.LocalErr.TheVariants.{NotFound}

-- the notebook that is asked for, if no row of its id is one
abbrev pub missing_book : Tables → Option (List ℕ) → Option (List ℕ)
missing_book t None = None
missing_book t (Some book) =
    if is_row_of folder_kind (row_at t book) then None else Some book

-- a notebook that is asked for has to be there
abbrev pub ChecksBook : Tables → Option (List ℕ) → Option LocalErr → Type 0
ChecksBook t book refusal = refusal ≡ option_map NotFound (missing_book t book)

-- ---- notebooks in each other

-- the id that a value spells, if it spells one
abbrev pub spelt_id : Option (List ℕ) → Option (List ℕ)
spelt_id None = None
spelt_id (Some text) = if is_id text then Some text else None

-- the notebook that the row says it is in, if it says one
abbrev pub parent_at : Option Row → Option (List ℕ)
parent_at None = None
parent_at (Some r) = spelt_id (value_of (codes "parent_id") (item_of r.content).props)

-- what holds of the notebook above, and is false if there is none
abbrev pub holds_above : Option (List ℕ) → (List ℕ → Bool) → Bool
holds_above None holds = false
holds_above (Some book) holds = holds book

-- From the second notebook on, so many steps up at most lead to the first one.
abbrev pub is_within : ℕ → Tables → List ℕ → List ℕ → Bool
is_within zero t id book = bytes_eq book id
is_within (suc steps) t id book =
    if bytes_eq book id then true
    else holds_above (parent_at (row_at t book)) (is_within steps t id)
