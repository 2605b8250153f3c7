use Rattle.std.specs.Prelude.{Some, refl}
use Rattle.std.proofs.lemmas.Result.{err_from_is_err_and}
use Rattle.law_licences.specs.Items.{is_resource}
use Rattle.local_store.specs.Rows.{item_of}
use Rattle.session.proofs.Ending.{ends_then}
use Rattle.session.proofs.Fetched.{got_keeps}
use Rattle.session.specs.Sessions.{GetsBytesOf}
use Rattle.session.specs.declared.finding.Finding.TheVariants.{Other}
use Rattle.upload.proofs.Licensed.{may_yield, still_found}
use Rattle.upload.specs.Uploading.{Yields, is_upload}
use Rattle.upload.proofs.yielding.give_way_to.Goals as goal

pub give_way-requires : goal.give_way-requires
give_way-requires g c =
    let now = g.W.Session.now in
    let row = c.args.row.now in
    let remote = c.args.remote in
    let a = now c.args.s.now in
    let b = now c.fetch_bytes_of.new.s in
    let got = c.in_ok-fetch_bytes_of.ensures.ends is_upload refl in
    let keeps = got_keeps row.id (is_resource (item_of remote.1)) is_upload a b got in
    record {
      may = record {
        ready = got.ready;
        yields = may_yield row remote b.site
            (still_found row (Other remote) a.site b.site keeps.tables keeps.last c.requires.seen.found)
            c.requires.seen.sound;
      };
    }

pub returns : goal.returns
returns g c = record {
  ends = ends_then (GetsBytesOf c.args.row.now.id c.args.remote.1)
      (Yields c.args.row.now (Some c.args.remote)) is_upload _
      (g.W.Session.now c.fetch_bytes_of.new.s) _ _
      (c.in_ok-fetch_bytes_of.ensures.ends is_upload refl) c.give_way.ensures.ends;
}

pub returns-in_err-fetch_bytes_of : goal.returns-in_err-fetch_bytes_of
returns-in_err-fetch_bytes_of g c = record {
  ends =
      let p = err_from_is_err_and c.from_residual.result c.from_residual.ensures.1 in
      rw (p.1, p.2) (c.in_err-fetch_bytes_of.ensures.ends is_upload refl);
}
