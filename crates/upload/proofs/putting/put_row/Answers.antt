use Rattle.std.specs.Prelude.{List, ℕ}
use Rattle.std.proofs.Common.{subst, sym}
use Rattle.std.proofs.lemmas.Result.{err_from_is_err_and}
use Rattle.item_text.specs.Grammar.{written}
use Rattle.law_licences.specs.Puts.{MayUpload}
use Rattle.local_store.specs.Rows.{item_of}
use Rattle.local_store.specs.declared.change.Change.TheVariants.{Uploaded}
use Rattle.session.proofs.Ending.{ends_then, gives_up_behind}
use Rattle.session.specs.Doing.{Ends}
use Rattle.session.specs.Parts.{Changes, Then}
use Rattle.session.specs.Work.{view_of}
use Rattle.upload.proofs.Licensed.{may_upload, still_found, still_plain}
use Rattle.upload.proofs.Loaded.{last_new, read_new, tables_new}
use Rattle.upload.specs.Uploading.{PutsIfNew, PutsText, blobs_of, is_new_resource, is_upload}
use Rattle.upload.proofs.putting.put_row.Goals as goal

pub put_text-requires : goal.put_text-requires
put_text-requires g c =
    let now = g.W.Session.now in
    let row = c.args.row.now in
    let a = now c.args.s.now in
    let b = now c.put_if_new.new.s in
    let blobs = blobs_of a.site.keeper.kept in
    let put = c.in_ok-put_if_new.ensures.ends in
    let tables = tables_new blobs row.id (is_new_resource row) is_upload a b put in
    record {
      may = record {
        ready = put.ready;
        found = still_found row _ a.site b.site tables
            (last_new row.id blobs row.id (is_new_resource row) is_upload a b put) c.requires.seen.found;
        readable = still_plain a.site b.site tables
            (read_new blobs row.id (is_new_resource row) is_upload a b put) c.requires.seen.readable;
      };
    }

pub make-requires-clause-may : goal.make-requires-clause-may
make-requires-clause-may g c = λ shown.
    let now = g.W.Session.now in
    let row = c.args.row.now in
    subst (λ (text : List ℕ). MayUpload (view_of shown (now c.put_text.new.s).site) row.id text)
    (sym c.in_ok-text.ensures.text)
    (may_upload row.id (written (item_of row.content)) is_upload (now c.put_if_new.new.s)
    (now c.put_text.new.s) shown c.in_ok-text.ensures.ends)

pub returns : goal.returns
returns g c = record {
  ends =
      let now = g.W.Session.now in
      let row = c.args.row.now in
      let text = written (item_of row.content) in
      let blobs = blobs_of (now c.args.s.now).site.keeper.kept in
      ends_then (PutsIfNew blobs row.id (is_new_resource row))
      (Then (PutsText row.id text) (Changes (Uploaded row.id text))) is_upload _
      (now c.put_if_new.new.s) _ _ c.in_ok-put_if_new.ensures.ends
      (ends_then (PutsText row.id text) (Changes (Uploaded row.id text)) is_upload _
      (now c.put_text.new.s) _ _ c.in_ok-text.ensures.ends
      (subst (λ (t : List ℕ). Ends (Changes (Uploaded row.id t)) is_upload (now c.put_text.new.s)
      c.make.result (now c.make.new.self)) c.in_ok-text.ensures.text
      (c.make.ensures.ends is_upload)));
}

pub returns-in_err-text : goal.returns-in_err-text
returns-in_err-text g c = record {
  ends =
      let row = c.args.row.now in
      let now = g.W.Session.now in
      let p = err_from_is_err_and c.from_residual-in_err-text.result
      c.from_residual-in_err-text.ensures.1 in
      rw (p.1, p.2) (gives_up_behind
      (PutsIfNew (blobs_of (now c.args.s.now).site.keeper.kept) row.id (is_new_resource row))
      is_upload _ (now c.put_if_new.new.s) _ _ c.in_ok-put_if_new.ensures.ends
      c.in_err-text.ensures.ends);
}
