-- The row of an id that waits.
use Rattle.std.specs.Prelude.{ℕ, ◌≡◌, List, Bool, true, false, if◌then◌else◌, Option, Some, None, refl}
use Rattle.std.proofs.Common.{ap, subst, ◌∙◌}
use Rattle.jop_base.proofs.KeyedLaws.{key-at}
use Rattle.local_store.specs.Rows.{row_id}
use Rattle.local_store.specs.Tables.{row_at}
use Rattle.local_store.specs.declared.row.Row.{Row}
use Rattle.local_store.specs.declared.tables.Tables.{Tables}
use Rattle.session.specs.Findings.{waiting}

-- this row waits, and is that of the id
pub record Waits (t : Tables) (id : List ℕ) (row : Row) : Type 0 where
  pub same : row.id ≡ id
  pub at : row_at t id ≡ Some row
  pub own : row_at t row.id ≡ Some row
  pub pending : row.pending ≡ true

waits_if : (t : Tables) (id : List ℕ) (stood row : Row) (pending : Bool)
    → row_at t id ≡ Some stood → stood.pending ≡ pending
    → Some row ≡ (if pending then Some stood else None) → Waits t id row
waits_if t id stood row true at e is =
    let it : stood ≡ row = cc in
    let same = key-at row_id t.rows id stood at in
    subst (λ (r : Row). Waits t id r) it
    (record { same = same; at = at; own = ap (row_at t) same ∙ at; pending = e })
waits_if t id stood row false at e is = absurd cc

waits_by : (t : Tables) (id : List ℕ) (stood : Option Row) (row : Row) → row_at t id ≡ stood
    → Some row ≡ waiting stood → Waits t id row
waits_by t id None row at is = absurd cc
waits_by t id (Some stood) row at is = waits_if t id stood row stood.pending at refl is

pub waits : (t : Tables) (id : List ℕ) (row : Row) → Some row ≡ waiting (row_at t id)
    → Waits t id row
waits t id row is = waits_by t id (row_at t id) row refl is
