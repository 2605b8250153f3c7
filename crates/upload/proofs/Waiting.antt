-- What stands of the rows that wait, over a change: none comes to wait, and those that still do are as they were.
use Rattle.std.specs.Prelude.{ℕ, ◌≡◌, List, Bool, true, false, bytes_eq, if◌then◌else◌, Option, Some, None, refl}
use Rattle.std.proofs.Common.{sym, ap, subst, ◌∙◌}
use Rattle.jop_base.proofs.KeyedLaws.{IsSorted-cut, IsSorted-put, at-cut, at-cut_other, at-put, at-put_same, same_text}
use Rattle.jop_base.specs.Keyed.{IsSorted, at, cut}
use Rattle.law_licences.specs.Checks.{is_pending}
use Rattle.local_store.specs.Changing.{after, conflicted, noted_if, uploaded, with_remote, with_row, without_row}
use Rattle.local_store.specs.Rows.{item_of, row_id}
use Rattle.local_store.specs.Tables.{row_at}
use Rattle.local_store.specs.declared.change.Change.TheVariants.{Conflict, Moved, Uploaded}
use Rattle.local_store.specs.declared.content.Content.{Content}
use Rattle.local_store.specs.declared.row.Row.{Row}
use Rattle.local_store.specs.declared.tables.Tables.{Tables}

-- the info stays, rows stay in order, and each row that waits afterwards is the one that stood there before
pub record Keeps (t u : Tables) : Type 0 where
  pub info : u.info ≡ t.info
  pub ordered : IsSorted row_id u.rows
  pub rows : (id : List ℕ) → is_pending (row_at u id) ≡ true → row_at t id ≡ row_at u id

pub keeps_same : (t : Tables) → IsSorted row_id t.rows → Keeps t t
keeps_same t ordered = record { info = refl; ordered = ordered; rows = λ id waits. refl }

pub keeps_on : (t u w : Tables) → Keeps t u → Keeps u w → Keeps t w
keeps_on t u w h k = record {
  info = k.info ∙ h.info;
  ordered = k.ordered;
  rows = λ id waits.
      let e = k.rows id waits in
      h.rows id (ap is_pending e ∙ waits) ∙ e;
}

-- ---- a row that is put or cut

put_if : (same : Bool) (r : Row) (stood : Option Row) → r.pending ≡ false
    → is_pending (if same then Some r else stood) ≡ true
    → stood ≡ (if same then Some r else stood)
put_if true r stood still waits = absurd cc
put_if false r stood still waits = refl

keeps_row : (t : Tables) (r : Row) → r.pending ≡ false → IsSorted row_id t.rows
    → Keeps t (with_row t r)
keeps_row t r still ordered = record {
  info = refl;
  ordered = IsSorted-put row_id t.rows r ordered;
  rows = λ id waits.
      let e = at-put row_id t.rows r id in
      put_if (bytes_eq r.id id) r (row_at t id) still (sym (ap is_pending e) ∙ waits) ∙ sym e;
}

cut_if : (rows : List Row) (id other : List ℕ) (same : Bool) → bytes_eq id other ≡ same
    → IsSorted row_id rows → is_pending (at row_id (cut row_id rows id) other) ≡ true
    → at row_id rows other ≡ at row_id (cut row_id rows id) other
cut_if rows id other true e ordered waits =
    let none : at row_id (cut row_id rows id) other ≡ None =
    subst (λ (k : List ℕ). at row_id (cut row_id rows id) k ≡ None)
    (same_text id other e) (at-cut row_id rows id ordered) in
    absurd cc
cut_if rows id other false e ordered waits = sym (at-cut_other row_id rows id other e)

keeps_cut : (t : Tables) (id : List ℕ) → IsSorted row_id t.rows → Keeps t (without_row t id)
keeps_cut t id ordered = record {
  info = refl;
  ordered = IsSorted-cut row_id t.rows id ordered;
  rows = λ other waits. cut_if t.rows id other (bytes_eq id other) refl ordered waits;
}

keeps_remote : (t : Tables) (id : List ℕ) (remote : Option (List ℕ × Content))
    → IsSorted row_id t.rows → Keeps t (with_remote t id remote)
keeps_remote t id None ordered = keeps_cut t id ordered
keeps_remote t id (Some remote) ordered =
    keeps_row t (record { id = id; content = remote.1; base = Some remote.0; pending = false }) refl
    ordered

keeps_noted : (t : Tables) (id : List ℕ) (remote : Option (List ℕ × Content)) (copies : Bool)
    (row : Row) → IsSorted row_id t.rows
    → Keeps t (with_remote (noted_if copies t id (item_of row.content)) id remote)
keeps_noted t id remote true row ordered =
    let k = keeps_remote (noted_if true t id (item_of row.content)) id remote ordered in
    record { info = k.info; ordered = k.ordered; rows = k.rows }
keeps_noted t id remote false row ordered = keeps_remote t id remote ordered

keeps_conflicted : (t : Tables) (id : List ℕ) (remote : Option (List ℕ × Content))
    (copies : Bool) (row : Option Row) → IsSorted row_id t.rows
    → Keeps t (conflicted t id remote copies row)
keeps_conflicted t id remote copies None ordered = keeps_same t ordered
keeps_conflicted t id remote copies (Some r) ordered = keeps_noted t id remote copies r ordered

keeps_marked : (t : Tables) (id bytes : List ℕ) (row : Option Row) → IsSorted row_id t.rows
    → Keeps t (uploaded t id bytes row)
keeps_marked t id bytes None ordered = keeps_same t ordered
keeps_marked t id bytes (Some r) ordered =
    keeps_row t (record { id = id; content = r.content; base = Some bytes; pending = false }) refl
    ordered

-- ---- changes

pub keeps_uploaded : (t : Tables) (id bytes : List ℕ) → IsSorted row_id t.rows
    → Keeps t (after t (Uploaded id bytes))
keeps_uploaded t id bytes ordered = keeps_marked t id bytes (row_at t id) ordered

pub keeps_conflict : (t : Tables) (id : List ℕ) (remote : Option (List ℕ × Content))
    (copies : Bool) → IsSorted row_id t.rows → Keeps t (after t (Conflict id remote copies))
keeps_conflict t id remote copies ordered =
    keeps_conflicted t id remote copies (row_at t id) ordered

pub keeps_moved : (t : Tables) (id : List ℕ) → IsSorted row_id t.rows
    → Keeps t (after t (Moved id))
keeps_moved t id ordered = keeps_conflicted t id None true (row_at t id) ordered

-- ---- the row itself doesn't wait then

marked_still : (t : Tables) (id bytes : List ℕ) (row : Option Row) → row_at t id ≡ row
    → is_pending (row_at (uploaded t id bytes row) id) ≡ false
marked_still t id bytes None e = ap is_pending e
marked_still t id bytes (Some r) e =
    ap is_pending (at-put_same row_id t.rows
    (record { id = id; content = r.content; base = Some bytes; pending = false }))

pub uploaded_still : (t : Tables) (id bytes : List ℕ)
    → is_pending (row_at (after t (Uploaded id bytes)) id) ≡ false
uploaded_still t id bytes = marked_still t id bytes (row_at t id) refl

remote_still : (t : Tables) (id : List ℕ) (remote : Option (List ℕ × Content))
    → IsSorted row_id t.rows → is_pending (row_at (with_remote t id remote) id) ≡ false
remote_still t id None ordered = ap is_pending (at-cut row_id t.rows id ordered)
remote_still t id (Some remote) ordered =
    ap is_pending (at-put_same row_id t.rows
    (record { id = id; content = remote.1; base = Some remote.0; pending = false }))

noted_still : (t : Tables) (id : List ℕ) (remote : Option (List ℕ × Content)) (copies : Bool)
    (row : Row) → IsSorted row_id t.rows
    → is_pending (row_at (with_remote (noted_if copies t id (item_of row.content)) id remote) id)
    ≡ false
noted_still t id remote true row ordered =
    remote_still (noted_if true t id (item_of row.content)) id remote ordered
noted_still t id remote false row ordered = remote_still t id remote ordered

conflicted_still : (t : Tables) (id : List ℕ) (remote : Option (List ℕ × Content))
    (copies : Bool) (row : Option Row) → row_at t id ≡ row → IsSorted row_id t.rows
    → is_pending (row_at (conflicted t id remote copies row) id) ≡ false
conflicted_still t id remote copies None e ordered = ap is_pending e
conflicted_still t id remote copies (Some r) e ordered = noted_still t id remote copies r ordered

pub conflict_still : (t : Tables) (id : List ℕ) (remote : Option (List ℕ × Content))
    (copies : Bool) → IsSorted row_id t.rows
    → is_pending (row_at (after t (Conflict id remote copies)) id) ≡ false
conflict_still t id remote copies ordered =
    conflicted_still t id remote copies (row_at t id) refl ordered
