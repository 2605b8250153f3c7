use Rattle.std.specs.Prelude.{List, ℕ}
use Rattle.std.proofs.Common.{◌∙◌, ap, subst, sym}
use Rattle.std.proofs.lemmas.Result.{err_from_is_err_and}
use Rattle.local_store.specs.declared.tables.Tables.{Tables}
use Rattle.session.proofs.Ending.{does_nothing, does_starves}
use Rattle.upload.proofs.Left.{ends_all, left_first}
use Rattle.upload.specs.Settled.{AreUploadable}
use Rattle.upload.specs.Uploading.{is_upload, pending_ids}
use Rattle.upload.proofs.uploading.upload_waiting.Goals as goal

pub returns-in_err-ids-clause-ends : goal.returns-in_err-ids-clause-ends
returns-in_err-ids-clause-ends g c =
    let p = err_from_is_err_and c.from_residual.result c.from_residual.ensures.1 in
    rw (p.1, p.2) (does_starves (does_nothing is_upload _ c.requires.can.ready))

pub upload_each-requires : goal.upload_each-requires
upload_each-requires g c =
    let w = g.W.Session.now c.args.s.now in
    record {
      uploadable = subst (λ (ids : List (List ℕ)). AreUploadable ids w)
          (sym (c.as_slice.ensures ∙ (c.in_ok-ids.ensures
          ∙ ap (λ (t : Tables). pending_ids t) c.tables.ensures)))
          (record {
            ready = c.requires.can.ready;
            readable = c.requires.can.readable;
            unput = c.requires.can.first;
            left = left_first w.site;
          });
    }

pub returns-clause-ends : goal.returns-clause-ends
returns-clause-ends g c =
    ends_all c.as_slice.result.now (g.W.Session.now c.args.s.now) _ c.upload_each.result
    (c.as_slice.ensures ∙ (c.in_ok-ids.ensures
    ∙ ap (λ (t : Tables). pending_ids t) c.tables.ensures))
    c.upload_each.ensures.ends
