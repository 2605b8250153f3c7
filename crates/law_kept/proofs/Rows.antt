-- What a change of all tables is for what is known of one item.
use Rattle.std.proofs.Common.{◌≡◌, refl, ap, sym, subst, cond, ℕ, List, Bool, true, false, Option, Some, None}
use Rattle.std.specs.Prelude.{bytes_eq, is_some, ◌||◌}
use Rattle.jop_base.specs.Keyed.{at, put}
use Rattle.jop_base.proofs.KeyedLaws.{same_text, at-put_same, at-put_other, at-cut, at-cut_other}
use Rattle.item_text.specs.declared.item.Item.{Item}
use Rattle.local_store.specs.Changing.{after, with_row, without_row, uploaded, noted_if, with_remote, conflicted, opened}
use Rattle.local_store.specs.Rows.{row_id, deletion_id, item_of}
use Rattle.local_store.specs.Tables.{row_at, deletion_at, base_of, is_synced, is_resource_row}
use Rattle.local_store.specs.declared.change.Change.{Change}
use Rattle.local_store.specs.declared.change.Change.TheVariants as tables
use Rattle.local_store.specs.declared.content.Content.{Content}
use Rattle.local_store.specs.declared.content.Content.TheVariants.{Plain}
use Rattle.local_store.specs.declared.row.Row.{Row}
use Rattle.local_store.specs.declared.tables.Tables.{Tables}
use Rattle.law_kept.specs.Acts.{ItemChange, Removed, Dropped, Conflict}
use Rattle.law_kept.specs.Own.{OwnRow, OwnSession, Own, own_changed, own_after}
use Rattle.law_kept.specs.Own as own
use Rattle.law_kept.specs.Telling.{change_act, if_its}
use Rattle.law_kept.specs.Known.{row_known, tables_known}
use Rattle.local_store.proofs.Keeping.{IsOrdered}

-- ---- a row more or less

pub with_own : (t : Tables) (r : Row) (id : List ℕ) → r.id ≡ id → row_at (with_row t r) id ≡ Some r
with_own t r id same =
    subst (λ (k : List ℕ). at row_id (put row_id t.rows r) k ≡ Some r) same
    (at-put_same row_id t.rows r)

pub with_other : (t : Tables) (r : Row) (id : List ℕ) → bytes_eq r.id id ≡ false
    → row_at (with_row t r) id ≡ row_at t id
with_other t r id differ = at-put_other row_id t.rows r id differ

pub without_own : (t : Tables) (id : List ℕ) → IsOrdered t → row_at (without_row t id) id ≡ None
without_own t id o = at-cut row_id t.rows id o.rows

pub without_other : (t : Tables) (i id : List ℕ) → bytes_eq i id ≡ false
    → row_at (without_row t i) id ≡ row_at t id
without_other t i id differ = at-cut_other row_id t.rows i id differ

pub base_known : (row : Option Row) → base_of row ≡ own.row_base (row_known row)
base_known None = refl
base_known (Some r) = refl

synced_known : (row : Option Row) → is_synced row ≡ own.has_base (row_known row)
synced_known None = refl
synced_known (Some r) = refl

-- ---- the item's own changes

-- where the row alone changes
abbrev pub row_set : Own → Option OwnRow → Own
row_set o row = record o { row = row }

pub put_known : (t : Tables) (r : Row) (id : List ℕ) (s : OwnSession) → r.id ≡ id
    → tables_known id (with_row t r) s ≡ row_set (tables_known id t s) (row_known (Some r))
put_known t r id s same =
    ap (λ (row : Option Row). row_set (tables_known id t s) (row_known row)) (with_own t r id same)

pub put_beside : (t : Tables) (r : Row) (id : List ℕ) (s : OwnSession) → bytes_eq r.id id ≡ false
    → tables_known id (with_row t r) s ≡ tables_known id t s
put_beside t r id s differ =
    ap (λ (row : Option Row). row_set (tables_known id t s) (row_known row))
    (with_other t r id differ)

pub cut_known : (t : Tables) (id : List ℕ) (s : OwnSession) → IsOrdered t
    → tables_known id (without_row t id) s ≡ row_set (tables_known id t s) None
cut_known t id s o =
    ap (λ (row : Option Row). row_set (tables_known id t s) (row_known row)) (without_own t id o)

pub cut_beside : (t : Tables) (i id : List ℕ) (s : OwnSession) → bytes_eq i id ≡ false
    → tables_known id (without_row t i) s ≡ tables_known id t s
cut_beside t i id s differ =
    ap (λ (row : Option Row). row_set (tables_known id t s) (row_known row))
    (without_other t i id differ)

pub uploaded_known : (t : Tables) (id bytes : List ℕ) (s : OwnSession) (row : Option Row)
    → row_at t id ≡ row
    → tables_known id (uploaded t id bytes row) s
    ≡ row_set (tables_known id t s) (own.row_sent bytes (row_known row))
uploaded_known t id bytes s None is = rw is refl
uploaded_known t id bytes s (Some r) is = put_known t
    (record { id = id; content = r.content; base = Some bytes; pending = false }) id s refl

pub uploaded_beside : (t : Tables) (i bytes id : List ℕ) (s : OwnSession) (row : Option Row)
    → bytes_eq i id ≡ false → tables_known id (uploaded t i bytes row) s ≡ tables_known id t s
uploaded_beside t i bytes id s None differ = refl
uploaded_beside t i bytes id s (Some r) differ = put_beside t
    (record { id = i; content = r.content; base = Some bytes; pending = false }) id s differ

pub opened_known : (t : Tables) (id : List ℕ) (item : Item) (s : OwnSession) (row : Option Row)
    → row_at t id ≡ row
    → tables_known id (opened t id item row) s
    ≡ row_set (tables_known id t s) (own.row_unsealed item (row_known row))
opened_known t id item s None is = rw is refl
opened_known t id item s (Some r) is = put_known t
    (record { id = id; content = Plain item; base = r.base; pending = r.pending }) id s refl

pub opened_beside : (t : Tables) (i : List ℕ) (item : Item) (id : List ℕ) (s : OwnSession)
    (row : Option Row)
    → bytes_eq i id ≡ false → tables_known id (opened t i item row) s ≡ tables_known id t s
opened_beside t i item id s None differ = refl
opened_beside t i item id s (Some r) differ = put_beside t
    (record { id = i; content = Plain item; base = r.base; pending = r.pending }) id s differ

-- the row that gives way, and is there
remote_known : (t : Tables) (id : List ℕ) (remote : Option (List ℕ × Content)) (s : OwnSession)
    (r : OwnRow) (copied : Option ℕ) → IsOrdered t
    → tables_known id (with_remote t id remote) s
    ≡ row_set (tables_known id t s) (own.row_changed (Some r) (Conflict remote copied))
remote_known t id None s r copied o = cut_known t id s o
remote_known t id (Some remote) s r copied o = put_known t
    (record { id = id; content = remote.1; base = Some remote.0; pending = false }) id s refl

remote_beside : (t : Tables) (i : List ℕ) (remote : Option (List ℕ × Content)) (id : List ℕ)
    (s : OwnSession)
    → bytes_eq i id ≡ false → tables_known id (with_remote t i remote) s ≡ tables_known id t s
remote_beside t i None id s differ = cut_beside t i id s differ
remote_beside t i (Some remote) id s differ = put_beside t
    (record { id = i; content = remote.1; base = Some remote.0; pending = false }) id s differ

pub conflicted_known : (t : Tables) (id : List ℕ) (remote : Option (List ℕ × Content)) (copies : Bool)
    (copied : Option ℕ) (s : OwnSession) (row : Option Row)
    → row_at t id ≡ row → IsOrdered t
    → tables_known id (conflicted t id remote copies row) s
    ≡ row_set (tables_known id t s) (own.row_changed (row_known row) (Conflict remote copied))
conflicted_known t id (Some remote) copies copied s None is o = rw is refl
conflicted_known t id None copies copied s None is o = rw is refl
conflicted_known t id remote true copied s (Some r) is o =
    let more : Tables = noted_if true t id (item_of r.content) in
    remote_known more id remote s
    (record { content = r.content; base = r.base; pending = r.pending }) copied
    (record { rows = o.rows; deletions = o.deletions })
conflicted_known t id remote false copied s (Some r) is o =
    remote_known t id remote s
    (record { content = r.content; base = r.base; pending = r.pending }) copied o

pub conflicted_beside : (t : Tables) (i : List ℕ) (remote : Option (List ℕ × Content)) (copies : Bool)
    (id : List ℕ) (s : OwnSession) (row : Option Row)
    → bytes_eq i id ≡ false
    → tables_known id (conflicted t i remote copies row) s ≡ tables_known id t s
conflicted_beside t i remote copies id s None differ = refl
conflicted_beside t i remote true id s (Some r) differ =
    remote_beside (noted_if true t i (item_of r.content)) i remote id s differ
conflicted_beside t i remote false id s (Some r) differ =
    remote_beside t i remote id s differ

-- ---- deletions

deletions_known : (t : Tables) (id : List ℕ) (resource synced : Bool)
    → is_some (at deletion_id
    (cond synced (put deletion_id t.deletions (record { id = id; resource = resource }))
    t.deletions) id)
    ≡ (synced || is_some (deletion_at t id))
deletions_known t id resource true =
    ap is_some (at-put_same deletion_id t.deletions (record { id = id; resource = resource }))
deletions_known t id resource false = refl

deletions_beside : (t : Tables) (i id : List ℕ) (resource synced : Bool) → bytes_eq i id ≡ false
    → at deletion_id
    (cond synced (put deletion_id t.deletions (record { id = i; resource = resource }))
    t.deletions) id
    ≡ deletion_at t id
deletions_beside t i id resource true differ =
    at-put_other deletion_id t.deletions (record { id = i; resource = resource }) id differ
deletions_beside t i id resource false differ = refl

pub removed_known : (t : Tables) (id : List ℕ) (s : OwnSession) → IsOrdered t
    → tables_known id (after t (tables.Removed id)) s ≡ own_changed (tables_known id t s) Removed
removed_known t id s o =
    rw (
      without_own t id o,
      deletions_known t id (is_resource_row (row_at t id)) (is_synced (row_at t id)),
      synced_known (row_at t id),
    ) refl

pub removed_beside : (t : Tables) (i id : List ℕ) (s : OwnSession) → bytes_eq i id ≡ false
    → tables_known id (after t (tables.Removed i)) s ≡ tables_known id t s
removed_beside t i id s differ =
    rw (
      without_other t i id differ,
      deletions_beside t i id (is_resource_row (row_at t i)) (is_synced (row_at t i)) differ,
    ) refl

pub dropped_known : (t : Tables) (id : List ℕ) (s : OwnSession) → IsOrdered t
    → tables_known id (after t (tables.Dropped id)) s ≡ own_changed (tables_known id t s) Dropped
dropped_known t id s o = rw (at-cut deletion_id t.deletions id o.deletions) refl

pub dropped_beside : (t : Tables) (i id : List ℕ) (s : OwnSession) → bytes_eq i id ≡ false
    → tables_known id (after t (tables.Dropped i)) s ≡ tables_known id t s
dropped_beside t i id s differ = rw (at-cut_other deletion_id t.deletions i id differ) refl

-- ---- any change of one item

-- a change of the item's own row, or of another one's
pub by_id : (t : Tables) (id i : List ℕ) (s : OwnSession) (change : List ℕ → Change)
    (its : ItemChange)
    → tables_known id (after t (change id)) s ≡ own_changed (tables_known id t s) its
    → (bytes_eq i id ≡ false → tables_known id (after t (change i)) s ≡ tables_known id t s)
    → tables_known id (after t (change i)) s
    ≡ own_after (tables_known id t s) (change_act (if_its id i its))
by_id t id i s change its mine other = by (bytes_eq i id) refl where
  by : (same : Bool) → bytes_eq i id ≡ same
      → tables_known id (after t (change i)) s
      ≡ own_after (tables_known id t s) (change_act (cond same (Some its) None))
  by true is =
      subst
      (λ (k : List ℕ). tables_known id (after t (change k)) s
      ≡ own_changed (tables_known id t s) its)
      (sym (same_text i id is)) mine
  by false differ = other differ
