use Rattle.std.specs.Prelude.{None, Some}
use Rattle.std.proofs.Common.{◌∙◌, ap, sym}
use Rattle.std.proofs.lemmas.Result.{err_from_is_err_and}
use Rattle.local_store.specs.Tables.{row_at}
use Rattle.local_store.specs.declared.tables.Tables.{Tables}
use Rattle.session.proofs.Ending.{does_nothing, does_starves}
use Rattle.session.specs.Findings.{waiting}
use Rattle.upload.proofs.Uploaded.{ends_found, uploadable_at, uploads_found}
use Rattle.session.proofs.WaitingRow.{waits}
use Rattle.upload.specs.Uploading.{blobs_of, is_upload}
use Rattle.upload.proofs.uploading.upload_one.Goals as goal

pub returns-in_err-waiting : goal.returns-in_err-waiting
returns-in_err-waiting g c = record {
  ends =
      let p = err_from_is_err_and c.from_residual.result c.from_residual.ensures.1 in
      rw (p.1, p.2) (does_starves (does_nothing is_upload _ c.requires.can.ready));
}

pub upload_row-uploaded-requires : goal.upload_row-uploaded-requires
upload_row-uploaded-requires g c =
    let w = g.W.Session.now c.args.s.now in
    record {
      uploadable = uploadable_at w c.args.id.now c.in-Some.row
          (waits w.site.tables c.args.id.now c.in-Some.row
          (sym c.in-Some.is ∙ (c.in_ok-waiting.ensures.row
          ∙ ap (λ (t : Tables). waiting (row_at t c.args.id.now)) c.tables.ensures)))
          c.requires.can;
    }

pub returns-in-Some : goal.returns-in-Some
returns-in-Some g c = record {
  ends =
      let a = g.W.Session.now c.args.s.now in
      ends_found (blobs_of a.site.keeper.kept) c.args.id.now (Some c.in-Some.row) a _ _
      (sym c.in-Some.is ∙ (c.in_ok-waiting.ensures.row
      ∙ ap (λ (t : Tables). waiting (row_at t c.args.id.now)) c.tables.ensures))
      c.upload_row-uploaded.ensures.ends;
}

pub returns-in-None : goal.returns-in-None
returns-in-None g c = record {
  ends =
      let a = g.W.Session.now c.args.s.now in
      uploads_found (blobs_of a.site.keeper.kept) c.args.id.now None a a
      (sym c.in-None.is ∙ (c.in_ok-waiting.ensures.row
      ∙ ap (λ (t : Tables). waiting (row_at t c.args.id.now)) c.tables.ensures))
      (does_nothing is_upload a c.requires.can.ready);
}
