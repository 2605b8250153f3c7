-- Sound writes keep tables sound, and what a store in memory answers is sound.
use Rattle.std.specs.Prelude.{ℕ, ◌≡◌, List, [], ◌∷◌, All, not, nat_eq, Some}
use Rattle.std.proofs.Common.{sym, subst}
use Rattle.std.proofs.lemmas.List.Elements.{All-append, All-filter, All-cons, All-nil, All-head, All-tail}
use Rattle.jop_base.proofs.KeyedLaws.{All-at, All-put, All-cut, IsSorted-put, IsSorted-cut, key-at}
use Rattle.keeper.specs.declared.blob.Blob.{Blob}
use Rattle.local_store.specs.declared.row.Row.{Row}
use Rattle.local_store.specs.declared.tables.Tables.{Tables}
use Rattle.keeper_records.specs.Memory.{IsSoundKept}
use Rattle.local_store.specs.Rows.{row_id, deletion_id}
use Rattle.local_store.specs.Sound.{IsSoundRow, IsSoundNote, IsSound}
use Rattle.local_store.specs.Tables.{row_at}
use Rattle.keeper_records.specs.declared.write.Write.{Write}
use Rattle.keeper_records.specs.declared.write.Write.TheVariants.{SetRow, DropRow, SetDeletion, DropDeletion, AddConflict, DropConflict, SetNext, SetClient, SetContext, SetInfo}
use Rattle.keeper_records.specs.Writes.{after_write, after_writes, IsSoundWrite}

written_sound : (t : Tables) (w : Write) → IsSound t → IsSoundWrite w → IsSound (after_write t w)
written_sound t (SetRow row) sound is = record {
  rows_ordered = IsSorted-put row_id t.rows row sound.rows_ordered;
  rows = All-put row_id IsSoundRow t.rows row sound.rows is;
  deletions_ordered = sound.deletions_ordered;
  conflicts = sound.conflicts;
  info = sound.info;
}
written_sound t (DropRow id) sound is = record {
  rows_ordered = IsSorted-cut row_id t.rows id sound.rows_ordered;
  rows = All-cut row_id IsSoundRow t.rows id sound.rows;
  deletions_ordered = sound.deletions_ordered;
  conflicts = sound.conflicts;
  info = sound.info;
}
written_sound t (SetDeletion deletion) sound is = record {
  rows_ordered = sound.rows_ordered;
  rows = sound.rows;
  deletions_ordered = IsSorted-put deletion_id t.deletions deletion sound.deletions_ordered;
  conflicts = sound.conflicts;
  info = sound.info;
}
written_sound t (DropDeletion id) sound is = record {
  rows_ordered = sound.rows_ordered;
  rows = sound.rows;
  deletions_ordered = IsSorted-cut deletion_id t.deletions id sound.deletions_ordered;
  conflicts = sound.conflicts;
  info = sound.info;
}
written_sound t (AddConflict note) sound is = record {
  rows_ordered = sound.rows_ordered;
  rows = sound.rows;
  deletions_ordered = sound.deletions_ordered;
  conflicts = All-append IsSoundNote t.conflicts _ sound.conflicts
      (All-cons IsSoundNote note [] is (All-nil IsSoundNote));
  info = sound.info;
}
written_sound t (DropConflict number) sound is = record {
  rows_ordered = sound.rows_ordered;
  rows = sound.rows;
  deletions_ordered = sound.deletions_ordered;
  conflicts = All-filter (λ n. not (nat_eq n.number number)) IsSoundNote t.conflicts sound.conflicts;
  info = sound.info;
}
written_sound t (SetNext number) sound is = record {
  rows_ordered = sound.rows_ordered;
  rows = sound.rows;
  deletions_ordered = sound.deletions_ordered;
  conflicts = sound.conflicts;
  info = sound.info;
}
written_sound t (SetClient client) sound is = record {
  rows_ordered = sound.rows_ordered;
  rows = sound.rows;
  deletions_ordered = sound.deletions_ordered;
  conflicts = sound.conflicts;
  info = sound.info;
}
written_sound t (SetContext context) sound is = record {
  rows_ordered = sound.rows_ordered;
  rows = sound.rows;
  deletions_ordered = sound.deletions_ordered;
  conflicts = sound.conflicts;
  info = sound.info;
}
written_sound t (SetInfo info) sound is = record {
  rows_ordered = sound.rows_ordered;
  rows = sound.rows;
  deletions_ordered = sound.deletions_ordered;
  conflicts = sound.conflicts;
  info = is;
}

pub written_all_sound : (t : Tables) (ws : List Write) → IsSound t → All IsSoundWrite ws
    → IsSound (after_writes t ws)
written_all_sound t [] sound all = sound
written_all_sound t (w ∷ ws) sound all =
    written_all_sound (after_write t w) ws
    (written_sound t w sound (All-head IsSoundWrite w ws all)) (All-tail IsSoundWrite w ws all)

-- what the writes made of what is kept is sound
pub written_tables_sound : (tables new : Tables) (blobs : List Blob) (ws : List Write)
    → IsSoundKept (record { tables = tables; blobs = blobs }) → new ≡ after_writes tables ws
    → All IsSoundWrite ws → IsSound new
written_tables_sound tables new blobs ws sound is all =
    subst IsSound (sym is) (written_all_sound tables ws sound.tables all)

-- the row of an id in sound tables is sound
pub found_row : (t : Tables) (id : List ℕ) (r : Row) → IsSound t → row_at t id ≡ Some r
    → (r.id ≡ id) × IsSoundRow r
found_row t id r sound is =
    (key-at row_id t.rows id r is, All-at row_id IsSoundRow t.rows id r sound.rows is)
