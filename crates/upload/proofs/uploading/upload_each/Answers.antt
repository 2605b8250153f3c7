use Rattle.std.specs.Prelude.{◌+◌, List, ℕ, drop, refl}
use Rattle.std.proofs.Common.{◌∙◌, ap, arith, subst}
use Rattle.std.proofs.lemmas.List.{drop_all}
use Rattle.std.proofs.lemmas.Result.{err_from_is_err_and}
use Rattle.law_licences.specs.Checks.{is_pending}
use Rattle.session.proofs.Ending.{does_as, does_nothing, gives_up_behind}
use Rattle.session.proofs.Repeating.{does_all, does_here, here_and_left}
use Rattle.session.specs.Parts.{ForEach}
use Rattle.session.specs.Work.{view_of}
use Rattle.upload.proofs.Licensed.{plain_as}
use Rattle.upload.proofs.Bytes.{same_waiting, uploads_by}
use Rattle.upload.proofs.Left.{can_put, left_on, settled, tended, unput_on}
use Rattle.upload.specs.Settled.{AreLeft}
use Rattle.upload.specs.Uploading.{UploadsOne, blobs_of, is_upload}
use Rattle.upload.proofs.uploading.upload_each.Goals as goal

pub loop-index-init : goal.loop-index-init
unfolding ForEach
loop-index-init g c = record {
  info = refl;
  read = refl;
  unput = c.requires.uploadable.unput;
  bytes = λ id waits. refl;
  left = c.requires.uploadable.left;
  does = does_nothing is_upload _ c.requires.uploadable.ready;
}

pub upload_one-requires : goal.upload_one-requires
upload_one-requires g c =
    let a = (g.W.Session.now c.args.s.now).site in
    record {
      can = record {
        ready = c.loop-index.invariant.does.ready;
        readable = plain_as a (g.W.Session.now c.loop-index.s).site c.loop-index.invariant.info
            c.loop-index.invariant.read
            (can_put a c.args.ids.now c.loop-index.index (omega arith) c.requires.uploadable.readable);
        unput = c.loop-index.invariant.unput;
      };
    }

pub loop-index-preserved : goal.loop-index-preserved
loop-index-preserved g c =
    let ids = c.args.ids.now in
    let i = c.loop-index.index in
    let id = c.index-ids-index.result in
    let before = c.loop-index.invariant in
    let done = c.in_ok-upload_one.ensures in
    let now = g.W.Session.now in
    let a = now c.args.s.now in
    let b = now c.loop-index.s in
    let n = now c.upload_one.new.s in
    let blobs = blobs_of a.site.keeper.kept in
    let own = blobs_of b.site.keeper.kept in
    let ordered = before.does.ready.tidy.sound.rows_ordered in
    let t = tended own is_upload id b n ordered done.ends in
    record {
      info = t.tended.tends.keeps.info ∙ before.info;
      read = t.tended.tends.read ∙ before.read;
      unput = unput_on id b.site n.site t before.unput;
      bytes = λ other waits.
          same_waiting own id other b n ordered done.ends waits
          ∙ before.bytes other
          (ap is_pending (t.tended.tends.keeps.rows other waits) ∙ waits);
      left = left_on b.site n.site id (drop (i + 1) ids) t
          (subst (λ (rest : List (List ℕ)). AreLeft b.site rest)
          (here_and_left ids i id (omega arith) c.index-ids-index.is) before.left);
      does = does_here (UploadsOne blobs) is_upload ids i id a b n (omega arith)
          c.index-ids-index.is before.does
          (does_as (UploadsOne own id) (UploadsOne blobs id) is_upload b n
          (λ shown ds it. uploads_by own blobs id (view_of shown b.site) ds (before.bytes id) it)
          done.ends);
    }

pub returns-in_err-upload_one-clause-ends : goal.returns-in_err-upload_one-clause-ends
returns-in_err-upload_one-clause-ends g c =
    let p = err_from_is_err_and c.from_residual.result c.from_residual.ensures.1 in
    rw (p.1, p.2) (gives_up_behind _ _ _ _ _ _ c.loop-index.invariant.does
    c.in_err-upload_one.ensures.ends)

pub returns-clause-settled : goal.returns-clause-settled
returns-clause-settled g c =
    let now = (g.W.Session.now c.loop-index.s).site in
    settled now (subst (λ (rest : List (List ℕ)). AreLeft now rest)
    (drop_all c.loop-index.index c.args.ids.now (omega arith)) c.loop-index.invariant.left)

pub returns-clause-ends : goal.returns-clause-ends
returns-clause-ends g c =
    does_all (UploadsOne (blobs_of (g.W.Session.now c.args.s.now).site.keeper.kept)) is_upload
    c.args.ids.now c.loop-index.index _ _ (omega arith) c.loop-index.invariant.does
