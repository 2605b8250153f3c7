use Rattle.std.proofs.Common.{◌≡◌, ◌∙◌, ap, subst, Some}
use Rattle.jop_base.specs.declared.path.Path.TheVariants.{Blob}
use Rattle.jop_target.specs.declared.call.Call.TheVariants.{GetBlob}
use Rattle.jop_target.specs.Memory.{IsSoundStore}
use Rattle.jop_target.specs.Store.{BLOB_LIMIT, got_blob, file_at, limit_of}
use Rattle.jop_target.proofs.SoundStore.{got_blob_fits, got_blob_kept, other_kept}
use Rattle.jop_target.proofs.mem_store.MemStore.get_blob.Goals as goal

pub returns-clause-shape : goal.returns-clause-shape
returns-clause-shape c =
    rw (c.got_blob-reply.ensures, c.at.ensures)
    (got_blob_fits _ c.args.id c.args.now c.self.invariant c.prove_valid.ensures c.requires)

pub returns-clause-blob : goal.returns-clause-blob
returns-clause-blob c =
    let id = c.args.id in
    let now = c.args.now in
    let contents = c.args.self.now in
    let reply = c.got_blob-reply.result in
    let sound : IsSoundStore contents = subst IsSoundStore c.self.view_is c.self.invariant in
    let got = ap (got_blob now BLOB_LIMIT) c.at.ensures in
    let asked : reply ≡ got_blob now (limit_of (Blob id)) (file_at contents.tree.files (Blob id)) =
    rw (← c.self.view_is) (c.got_blob-reply.ensures ∙ got) in
    got_blob_kept contents id c.args.blob.now c.in_ok-blob.field-0 now
    c.in-GotBlob.now c.in-GotBlob.len reply
    sound c.prove_valid.ensures asked c.in-GotBlob.is c.in_ok-blob.ensures

pub returns-in_default-clause-shape : goal.returns-in_default-clause-shape
returns-in_default-clause-shape c =
    rw (c.got_blob-reply.ensures, c.at.ensures)
    (got_blob_fits _ c.args.id c.args.now c.self.invariant c.prove_valid.ensures c.requires)

pub returns-in_default-clause-blob : goal.returns-in_default-clause-blob
returns-in_default-clause-blob c =
    other_kept (Some c.args.self.now) (GetBlob c.args.id) c.args.blob.now
    c.got_blob-reply.result c.in_default.not-GotBlob
