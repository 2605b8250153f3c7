-- What each kind of change does to the rows that wait: a session's makes none wait, and settles what waits no more.
use Rattle.std.specs.Prelude.{ℕ, ◌≡◌, List, Bool, true, false, bytes_eq, if◌then◌else◌, Option, Some, None, refl}
use Rattle.std.proofs.Common.{sym, ap, subst, ◌∙◌}
use Rattle.jop_base.specs.Keyed.{at, put, cut, IsSorted}
use Rattle.jop_base.proofs.KeyedLaws.{at-put, at-cut, at-cut_other, same_text}
use Rattle.item_text.specs.declared.item.Item.{Item}
use Rattle.local_store.specs.Changing.{after, with_row, without_row, uploaded, noted_if, with_remote, conflicted, opened}
use Rattle.local_store.specs.Rows.{row_id, item_of}
use Rattle.local_store.specs.Tables.{row_at}
use Rattle.local_store.specs.declared.change.Change.{Change}
use Rattle.local_store.specs.declared.change.Change.TheVariants.{Uploaded, Dropped, Taken, Conflict, Moved, Gone, Opened, InfoIs, ContextIs}
use Rattle.local_store.specs.declared.content.Content.{Content}
use Rattle.local_store.specs.declared.content.Content.TheVariants.{Plain}
use Rattle.local_store.specs.declared.row.Row.{Row}
use Rattle.local_store.specs.declared.tables.Tables.{Tables}
use Rattle.law_licences.specs.Checks.{is_pending}
use Rattle.law_licences.specs.Licences.{MayChange}
use Rattle.law_licences.specs.Settling.{IsSettling}
use Rattle.law_licences.specs.Views.{View}

-- ---- rows that wait still

pending_if : (same : Bool) (r : Row) (before : Option Row) → r.pending ≡ false
    → is_pending (if same then Some r else before) ≡ true → is_pending before ≡ true
pending_if true r before still h = cc
pending_if false r before still h = h

-- a row that is put and doesn't wait makes none wait
pending-with_row : (t : Tables) (r : Row) (id : List ℕ) → r.pending ≡ false
    → is_pending (row_at (with_row t r) id) ≡ true → is_pending (row_at t id) ≡ true
pending-with_row t r id still h =
    pending_if (bytes_eq r.id id) r (row_at t id) still
    (ap is_pending (sym (at-put row_id t.rows r id)) ∙ h)

pending_cut : (rows : List Row) (id other : List ℕ) (same : Bool) → bytes_eq id other ≡ same
    → IsSorted row_id rows → is_pending (at row_id (cut row_id rows id) other) ≡ true
    → is_pending (at row_id rows other) ≡ true
pending_cut rows id other true e sorted h =
    let none : at row_id (cut row_id rows id) other ≡ None =
    subst (λ (k : List ℕ). at row_id (cut row_id rows id) k ≡ None)
    (same_text id other e) (at-cut row_id rows id sorted) in
    absurd cc
pending_cut rows id other false e sorted h =
    ap is_pending (sym (at-cut_other row_id rows id other e)) ∙ h

-- nor does a row that goes
pending-without_row : (t : Tables) (id other : List ℕ) → IsSorted row_id t.rows
    → is_pending (row_at (without_row t id) other) ≡ true → is_pending (row_at t other) ≡ true
pending-without_row t id other sorted h =
    pending_cut t.rows id other (bytes_eq id other) refl sorted h

pending_uploaded : (t : Tables) (id bytes other : List ℕ) (row : Option Row)
    → is_pending (row_at (uploaded t id bytes row) other) ≡ true
    → is_pending (row_at t other) ≡ true
pending_uploaded t id bytes other None h = h
pending_uploaded t id bytes other (Some r) h =
    pending-with_row t
    (record { id = id; content = r.content; base = Some bytes; pending = false }) other refl h

pending_remote : (t : Tables) (id other : List ℕ) (remote : Option (List ℕ × Content))
    → IsSorted row_id t.rows → is_pending (row_at (with_remote t id remote) other) ≡ true
    → is_pending (row_at t other) ≡ true
pending_remote t id other None sorted h = pending-without_row t id other sorted h
pending_remote t id other (Some remote) sorted h =
    pending-with_row t
    (record { id = id; content = remote.1; base = Some remote.0; pending = false }) other refl h

pending_conflicted : (t : Tables) (id other : List ℕ) (remote : Option (List ℕ × Content))
    (copies : Bool) (row : Option Row)
    → IsSorted row_id t.rows
    → is_pending (row_at (conflicted t id remote copies row) other) ≡ true
    → is_pending (row_at t other) ≡ true
pending_conflicted t id other remote copies None sorted h = h
pending_conflicted t id other remote true (Some r) sorted h =
    pending_remote (noted_if true t id (item_of r.content)) id other remote sorted h
pending_conflicted t id other remote false (Some r) sorted h =
    pending_remote (noted_if false t id (item_of r.content)) id other remote sorted h

-- ---- rows that wait no more

-- a row at another id stays as it is
by_put : (rows : List Row) (x : Row) (id : List ℕ) (same : Bool) → bytes_eq x.id id ≡ same
    → is_pending (at row_id rows id) ≡ true → is_pending (at row_id (put row_id rows x) id) ≡ false
    → x.id ≡ id
by_put rows x id true e was is = same_text x.id id e
by_put rows x id false e was is =
    let still =
    ap is_pending (at-put row_id rows x id
    ∙ ap (λ (b : Bool). if b then Some x else at row_id rows id) e) in
    absurd cc

by_cut : (rows : List Row) (other id : List ℕ) (same : Bool) → bytes_eq other id ≡ same
    → is_pending (at row_id rows id) ≡ true
    → is_pending (at row_id (cut row_id rows other) id) ≡ false → other ≡ id
by_cut rows other id true e was is = same_text other id e
by_cut rows other id false e was is =
    let still = ap is_pending (at-cut_other row_id rows other id e) in absurd cc

by_upload : (t : Tables) (other bytes id : List ℕ) (row : Option Row)
    → is_pending (row_at t id) ≡ true
    → is_pending (row_at (uploaded t other bytes row) id) ≡ false → other ≡ id
by_upload t other bytes id None was is = absurd cc
by_upload t other bytes id (Some r) was is =
    by_put t.rows (record { id = other; content = r.content; base = Some bytes; pending = false }) id
    (bytes_eq other id) refl was is

by_remote : (t : Tables) (other id : List ℕ) (remote : Option (List ℕ × Content))
    → is_pending (row_at t id) ≡ true
    → is_pending (row_at (with_remote t other remote) id) ≡ false → other ≡ id
by_remote t other id None was is = by_cut t.rows other id (bytes_eq other id) refl was is
by_remote t other id (Some remote) was is =
    by_put t.rows
    (record { id = other; content = remote.1; base = Some remote.0; pending = false }) id
    (bytes_eq other id) refl was is

by_conflict : (t : Tables) (other id : List ℕ) (remote : Option (List ℕ × Content))
    (copies : Bool) (row : Option Row)
    → is_pending (row_at t id) ≡ true
    → is_pending (row_at (conflicted t other remote copies row) id) ≡ false → other ≡ id
by_conflict t other id remote copies None was is = absurd cc
by_conflict t other id remote true (Some r) was is =
    by_remote (noted_if true t other (item_of r.content)) other id remote was is
by_conflict t other id remote false (Some r) was is =
    by_remote (noted_if false t other (item_of r.content)) other id remote was is

-- a row without a change is none that waits
apart : (t : Tables) (other id : List ℕ) → other ≡ id → is_pending (row_at t other) ≡ false
    → is_pending (row_at t id) ≡ true → ⊥
apart t other id e still waits =
    let f : false ≡ true =
    sym still ∙ (ap (λ (i : List ℕ). is_pending (row_at t i)) e ∙ waits) in
    cc

-- ---- rows that are opened

opened_if : (same : Bool) (other id : List ℕ) (t : Tables) (r new : Row) → bytes_eq other id ≡ same
    → row_at t other ≡ Some r → new.pending ≡ r.pending
    → is_pending (if same then Some new else row_at t id) ≡ is_pending (row_at t id)
opened_if true other id t r new e there waits =
    let same : row_at t id ≡ Some r =
    subst (λ (k : List ℕ). row_at t k ≡ Some r) (same_text other id e) there in
    waits ∙ sym (ap is_pending same)
opened_if false other id t r new e there waits = refl

-- a row that is opened waits as it did
pending_opened : (t : Tables) (other : List ℕ) (item : Item) (id : List ℕ) (row : Option Row)
    → row_at t other ≡ row
    → is_pending (row_at (opened t other item row) id) ≡ is_pending (row_at t id)
pending_opened t other item id None there = refl
pending_opened t other item id (Some r) there =
    let new : Row =
    record { id = other; content = Plain item; base = r.base; pending = r.pending } in
    ap is_pending (at-put row_id t.rows new id)
    ∙ opened_if (bytes_eq other id) other id t r new refl there refl

-- ---- changes

-- a row that waits then waited before
pub pending-after : (v : View) (t : Tables) (c : Change) (id : List ℕ)
    → IsSorted row_id t.rows → MayChange v c → is_pending (row_at (after t c) id) ≡ true
    → is_pending (row_at t id) ≡ true
pending-after v t (Uploaded other bytes) id sorted may h =
    pending_uploaded t other bytes id (row_at t other) h
pending-after v t (Dropped other) id sorted may h = h
pending-after v t (Taken other bytes content) id sorted may h =
    pending-with_row t
    (record { id = other; content = content; base = Some bytes; pending = false }) id refl h
pending-after v t (Conflict other remote copies) id sorted may h =
    pending_conflicted t other id remote copies (row_at t other) sorted h
pending-after v t (Moved other) id sorted may h =
    pending_conflicted t other id None true (row_at t other) sorted h
pending-after v t (Gone other) id sorted may h = pending-without_row t other id sorted h
pending-after v t (Opened other item) id sorted may h =
    sym (pending_opened t other item id (row_at t other) refl) ∙ h
pending-after v t (InfoIs info) id sorted may h = h
pending-after v t (ContextIs context) id sorted may h = h
pending-after v t c id sorted may h = absurd may

-- a row that waits no more was settled
pub settled_by : (v : View) (c : Change) (id : List ℕ) → MayChange v c
    → is_pending (row_at v.tables id) ≡ true
    → is_pending (row_at (after v.tables c) id) ≡ false → IsSettling id c
settled_by v (Uploaded other bytes) id may was is =
    by_upload v.tables other bytes id (row_at v.tables other) was is
settled_by v (Dropped other) id may was is = absurd cc
settled_by v (Taken other bytes content) id may was is =
    absurd (apart v.tables other id
    (by_put v.tables.rows
    (record { id = other; content = content; base = Some bytes; pending = false }) id
    (bytes_eq other id) refl was is)
    may.unchanged was)
settled_by v (Conflict other remote copies) id may was is =
    by_conflict v.tables other id remote copies (row_at v.tables other) was is
settled_by v (Moved other) id may was is =
    by_conflict v.tables other id None true (row_at v.tables other) was is
settled_by v (Gone other) id may was is =
    absurd (apart v.tables other id
    (by_cut v.tables.rows other id (bytes_eq other id) refl was is) may.unchanged was)
settled_by v (Opened other item) id may was is =
    let e : false ≡ true =
    sym is ∙ (pending_opened v.tables other item id (row_at v.tables other) refl ∙ was) in
    absurd cc
settled_by v (InfoIs info) id may was is = absurd cc
settled_by v (ContextIs context) id may was is = absurd cc
settled_by v c id may was is = absurd may
