use Rattle.std.specs.Prelude.{ℕ, List, true}
use Rattle.std.proofs.Common.{◌≡◌, take, drop}
use Rattle.law_licences.specs.Checks.{is_pending}
use Rattle.law_licences.specs.Infos.{info_read}
use Rattle.law_licences.specs.Trails.{session_calls}
use Rattle.local_store.specs.Tables.{row_at}
use Rattle.session.specs.Doing.{Does}
use Rattle.session.specs.Parts.{ForEach}
use Rattle.upload.proofs.Bytes.{bytes_in}
use Rattle.upload.specs.Conditions.{AreUnput}
use Rattle.upload.specs.Settled.{AreLeft}
use Rattle.upload.specs.Uploading.{UploadsOne, blobs_of, is_upload}
use Rattle.upload.proofs.uploading.upload_each.Given as goal

-- those before here are done, and of those from here on each that waits is left
abbrev pub invariant-loop-index : goal.invariant-loop-index
invariant-loop-index g l =
    let then = g.W.Session.now l.fn.s in
    let now = g.W.Session.now l.s in
    record {
      info : now.site.tables.info ≡ then.site.tables.info;
      read : info_read (session_calls now.site.line.trail)
          ≡ info_read (session_calls then.site.line.trail);
      unput : AreUnput now.site;
      bytes : (id : List ℕ) → is_pending (row_at now.site.tables id) ≡ true
          → bytes_in (blobs_of now.site.keeper.kept) id
          ≡ bytes_in (blobs_of then.site.keeper.kept) id;
      left : AreLeft now.site (drop l.index l.ids);
      does : Does (ForEach (UploadsOne (blobs_of then.site.keeper.kept)) (take l.index l.ids))
          is_upload then now;
    }
