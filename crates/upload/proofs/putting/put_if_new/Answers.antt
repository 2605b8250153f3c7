use Rattle.std.proofs.Common.{◌∙◌, sym}
use Rattle.upload.proofs.Licensed.{may_put_blob, puts_bytes, puts_no_bytes}
use Rattle.upload.specs.Uploading.{blobs_of, is_new_resource}
use Rattle.upload.proofs.putting.put_if_new.Goals as goal

pub put_bytes-requires-clause-may : goal.put_bytes-requires-clause-may
put_bytes-requires-clause-may g c = λ shown.
    may_put_blob c.args.row.now (g.W.Session.now c.args.s.now).site shown c.requires.seen.found
    (sym c.is_new_resource.ensures ∙ c.if-not-is_new_resource.false) c.requires.seen.unput

pub returns-then-not-is_new_resource : goal.returns-then-not-is_new_resource
returns-then-not-is_new_resource g c = record {
  ends =
      let row = c.args.row.now in
      puts_no_bytes (blobs_of (g.W.Session.now c.args.s.now).site.keeper.kept) row.id
      (is_new_resource row) _ (sym c.is_new_resource.ensures ∙ c.if-not-is_new_resource.true)
      c.requires.seen.ready;
}

pub returns : goal.returns
returns g c = record {
  ends =
      let row = c.args.row.now in
      puts_bytes (blobs_of (g.W.Session.now c.args.s.now).site.keeper.kept) row.id
      (is_new_resource row) _ _ c.put_bytes.result
      (sym c.is_new_resource.ensures ∙ c.if-not-is_new_resource.false) c.put_bytes.ensures.ends;
}
