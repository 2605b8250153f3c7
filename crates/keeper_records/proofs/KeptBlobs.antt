-- What a keeper in memory keeps stays in order when bytes are saved.
use Rattle.std.specs.Prelude.{◌≡◌, List}
use Rattle.std.proofs.Common.{sym, subst}
use Rattle.jop_base.specs.Keyed.{put, IsSorted}
use Rattle.jop_base.proofs.KeyedLaws.{IsSorted-put}
use Rattle.keeper.specs.declared.blob.Blob.{Blob}
use Rattle.local_store.specs.declared.tables.Tables.{Tables}
use Rattle.keeper_records.specs.Memory.{IsSoundKept}
use Rattle.keeper.specs.Keepers.{blob_id}

pub blobs_kept : (tables : Tables) (old new : List Blob) (b : Blob)
    → IsSoundKept (record { tables = tables; blobs = old }) → new ≡ put blob_id old b
    → IsSoundKept (record { tables = tables; blobs = new })
blobs_kept tables old new b sound is = record {
  tables = sound.tables;
  blobs = subst (λ (bs : List Blob). IsSorted blob_id bs) (sym is)
      (IsSorted-put blob_id old b sound.blobs);
}
