use Rattle.std.proofs.Common.{◌∙◌, ap, sym}
use Rattle.std.proofs.lemmas.Result.{err_from_is_err_and}
use Rattle.local_store.specs.declared.tables.Tables.{Tables}
use Rattle.session.proofs.Ending.{does_nothing, does_starves}
use Rattle.upload.specs.Deleting.{is_deletion}
use Rattle.upload.proofs.deleting.delete_listed.Goals as goal

pub returns-in_err-deletions : goal.returns-in_err-deletions
returns-in_err-deletions g c = record {
  ends = let p = err_from_is_err_and c.from_residual.result c.from_residual.ensures.1 in
      rw (p.1, p.2) (does_starves (does_nothing is_deletion _ c.requires.ready));
}

pub delete_each-requires : goal.delete_each-requires
delete_each-requires g c = record {
  all = record {
    ready = c.requires.ready;
    all = sym (c.as_slice.ensures ∙ (c.in_ok-deletions.ensures
        ∙ ap (λ (t : Tables). t.deletions) c.tables.ensures));
  };
}
