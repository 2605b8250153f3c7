use Rattle.std.proofs.Common.{ap}
use Rattle.std.proofs.lemmas.Result.{err_from_is_err_and}
use Rattle.session.proofs.Behind.{sound_behind}
use Rattle.keeper.specs.Keepers.{KeeperNow}
use Rattle.upload.proofs.Licensed.{found_row, read_row, still_plain, unput_row}
use Rattle.upload.proofs.Uploaded.{ends_row}
use Rattle.upload.specs.Uploading.{blobs_of, is_upload}
use Rattle.std.specs.Prelude.{refl}
use Rattle.upload.proofs.uploading.upload_row.Goals as goal

pub settle-requires : goal.settle-requires
settle-requires g c =
    let row = c.args.row.now in
    let can = c.requires.uploadable in
    let found = c.in_ok-finding.ensures.ends is_upload refl in
    let a = g.W.Session.now c.args.s.now in
    let b = g.W.Session.now c.find.new.self in
    record {
      seen = record {
        ready = found.ready;
        found = found_row row _ is_upload _ _ c.find.ensures.same.tables can.at can.pending found;
        sound = sound_behind row.id _ is_upload _ _ found;
        readable = still_plain a.site b.site c.find.ensures.same.tables
            (read_row row.id c.in_ok-finding.finding is_upload a b found) can.readable;
        unput = λ none. unput_row row.id _ is_upload _ _ found (can.unput none);
      };
    }

pub returns : goal.returns
returns g c = record {
  ends =
      let now = g.W.Session.now in
      let a = now c.args.s.now in
      let b = now c.find.new.self in
      ends_row (blobs_of a.site.keeper.kept) (blobs_of b.site.keeper.kept) c.args.row.now
      c.in_ok-finding.finding a b _ c.settle.result
      (ap (λ (k : KeeperNow). blobs_of k.kept) c.find.ensures.same.keeper) c.requires.uploadable.at
      (c.in_ok-finding.ensures.ends is_upload refl) c.settle.ensures.ends;
}

pub returns-in_err-finding : goal.returns-in_err-finding
returns-in_err-finding g c = record {
  ends =
      let p = err_from_is_err_and c.from_residual.result c.from_residual.ensures.1 in
      rw (p.1, p.2) (c.in_err-finding.ensures.ends is_upload refl);
}
