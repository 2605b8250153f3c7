use Rattle.std.specs.Prelude.{Some, length, refl}
use Rattle.std.proofs.Common.{subst, sym}
use Rattle.std.proofs.lemmas.Result.{err_from_is_err_and}
use Rattle.jop_target.specs.declared.call.Call.TheVariants.{PutBlob}
use Rattle.session.proofs.Behind.{hears_as}
use Rattle.session.proofs.Ending.{does_nothing}
use Rattle.session.specs.Doing.{Does, Ends}
use Rattle.session.specs.Sessions.{MayAsk}
use Rattle.session.specs.Work.{IsAtWork, WorkNow, view_of}
use Rattle.keeper.specs.Keepers.{IsBlobOfKept}
use Rattle.upload.proofs.Loaded.{bytes_put, puts_nothing}
use Rattle.upload.specs.Uploading.{PutsKept, blobs_of, is_upload}
use Rattle.upload.proofs.loading.put_bytes.Goals as goal

pub put_bytes-requires-clause-ready : goal.put_bytes-requires-clause-ready
put_bytes-requires-clause-ready g c =
    subst IsAtWork (sym (c.in_ok-loaded.ensures.ends is_upload).0) c.requires.ready

pub put_bytes-requires-clause-may : goal.put_bytes-requires-clause-may
put_bytes-requires-clause-may g c =
    subst (λ (w : WorkNow). MayAsk w (PutBlob c.args.id.now (length c.in-Some.bytes)))
    (sym (c.in_ok-loaded.ensures.ends is_upload).0) c.requires.may

pub put_bytes-requires-clause-kept : goal.put_bytes-requires-clause-kept
put_bytes-requires-clause-kept g c =
    let loaded = c.in_ok-loaded.ensures.ends is_upload in
    let told = rw c.in-Some.is at loaded.1 in
    subst (λ (w : WorkNow). IsBlobOfKept w.site.keeper.kept c.args.id.now
    (Some c.in-Some.bytes)) (sym loaded.0) told

pub returns-in-Some : goal.returns-in-Some
returns-in-Some g c = record {
  ends =
      let now = g.W.Session.now in
      let id = c.args.id.now in
      let kept = (now c.args.s.now).site.keeper.kept in
      let loaded = c.in_ok-loaded.ensures.ends is_upload in
      let told = rw c.in-Some.is at loaded.1 in
      subst (λ (w : WorkNow). Ends (PutsKept (blobs_of kept) id) is_upload w c.put_bytes.result
      (now c.put_bytes.new.self)) loaded.0
      (hears_as _ (PutsKept (blobs_of kept) id) is_upload (now c.load.new.self) _ _
      (λ reply answer shown ds it.
      bytes_put kept id _ reply told answer (view_of shown (now c.load.new.self).site) ds it)
      (c.put_bytes.ensures.ends is_upload refl));
}

pub returns-in-None : goal.returns-in-None
returns-in-None g c = record {
  ends =
      let now = g.W.Session.now in
      let kept = (now c.args.s.now).site.keeper.kept in
      let loaded = c.in_ok-loaded.ensures.ends is_upload in
      let told = rw c.in-None.is at loaded.1 in
      subst (λ (w : WorkNow). Does (PutsKept (blobs_of kept) c.args.id.now) is_upload
      (now c.args.s.now) w) (sym loaded.0)
      (puts_nothing kept c.args.id.now _ _ told (does_nothing is_upload _ c.requires.ready));
}

pub returns-in_err-loaded : goal.returns-in_err-loaded
returns-in_err-loaded g c = record {
  ends =
      let p = err_from_is_err_and c.from_residual.result c.from_residual.ensures.1 in
      rw (p.1, p.2) (c.in_err-loaded.ensures.ends is_upload);
}
