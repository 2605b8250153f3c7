use Rattle.std.proofs.Common.{◌∙◌, ap, refl, subst, sym}
use Rattle.std.proofs.lemmas.Result.{err_from_is_err_and}
use Rattle.local_store.specs.declared.tables.Tables.{Tables}
use Rattle.session_opening.proofs.Joined.{is_merge, joins, joins_merging, none_merging, still_merge}
use Rattle.session_opening.proofs.HeadwayPuts.{joins_progress, stops_put}
use Rattle.session_opening.proofs.Headways.{starved_stops}
use Rattle.session_opening.specs.Opening.{is_joining}
use Rattle.sync_info.specs.Merge.{merged}
use Rattle.session.proofs.Ending.{does_nothing, does_starves}
use Rattle.sync_info.specs.Info.{IsInfo}
use Rattle.session_opening.proofs.joining.join_info.Goals as goal

pub merge-requires-clause-local : goal.merge-requires-clause-local
merge-requires-clause-local g c =
    subst IsInfo (sym (ap (λ (t : Tables). t.info) c.tables.ensures))
    c.requires.ready.tidy.sound.info

pub merge-requires-clause-remote : goal.merge-requires-clause-remote
merge-requires-clause-remote g c = c.requires.read.valid

pub put_info-requires-clause-merge : goal.put_info-requires-clause-merge
put_info-requires-clause-merge g c =
    is_merge _ c.args.remote.now c.tables.result.now (g.W.Session.now c.args.s.now).site
    c.in_ok-info.ensures.valid c.requires.read c.in_ok-info.ensures.merged c.tables.ensures

pub set_info-requires-clause-merge : goal.set_info-requires-clause-merge
set_info-requires-clause-merge g c = (
  c.args.remote.now,
  still_merge _ c.args.remote.now is_joining (g.W.Session.now c.args.s.now) _
      c.in_ok-put_info.ensures.ends.0
      (is_merge _ c.args.remote.now c.tables.result.now (g.W.Session.now c.args.s.now).site
      c.in_ok-info.ensures.valid c.requires.read c.in_ok-info.ensures.merged c.tables.ensures),
)

pub returns-in_err-info : goal.returns-in_err-info
returns-in_err-info g c = record {
  ends =
      let p = err_from_is_err_and c.from_residual.result c.from_residual.ensures.1 in (
        rw (p.1, p.2) (does_starves (does_nothing is_joining _ c.requires.ready)),
        none_merging (g.W.Session.now c.args.s.now) c.requires.ready,
      );
  progress = λ got.
      let p = err_from_is_err_and c.from_residual.result c.from_residual.ensures.1 in
      rw (p.1, p.2) (starved_stops _ _ c.args.remote.now _ got);
}

pub returns-in_err-put_info : goal.returns-in_err-put_info
returns-in_err-put_info g c = record {
  ends =
      let p = err_from_is_err_and c.from_residual-in_err-put_info.result
      c.from_residual-in_err-put_info.ensures.1 in (
        rw (p.1, p.2) c.in_err-put_info.ensures.ends.0,
        c.in_err-put_info.ensures.ends.1,
      );
  progress = λ got.
      let now = g.W.Session.now in
      let own = (now c.args.s.now).site.tables.info in
      let p = err_from_is_err_and c.from_residual-in_err-put_info.result
      c.from_residual-in_err-put_info.ensures.1 in
      rw (p.1, p.2) (stops_put own _ c.args.remote.now (now c.args.s.now) (now c.put_info.new.s) _
      (c.in_ok-info.ensures.merged
      ∙ ap (λ (t : Tables). merged t.info c.args.remote.now) c.tables.ensures)
      (c.in_err-put_info.ensures.progress own) got);
}

pub returns : goal.returns
returns g c = record {
  ends =
      let now = g.W.Session.now in
      let put = c.in_ok-put_info.ensures.ends in (
        joins _ c.args.remote.now (now c.args.s.now) (now c.put_info.new.s)
            (now c.set_info.new.s) c.set_info.result
            (is_merge _ c.args.remote.now c.tables.result.now (now c.args.s.now).site
            c.in_ok-info.ensures.valid c.requires.read c.in_ok-info.ensures.merged
            c.tables.ensures)
            put.0 (c.set_info.ensures.ends is_joining),
        joins_merging _ c.args.remote.now (now c.args.s.now) (now c.put_info.new.s)
            (now c.set_info.new.s) c.set_info.result put.0 c.set_info.ensures.ends put.1,
      );
  progress = λ got.
      let now = g.W.Session.now in
      let own = (now c.args.s.now).site.tables.info in
      joins_progress own _ c.args.remote.now (now c.args.s.now) (now c.put_info.new.s)
      (now c.set_info.new.s) c.set_info.result
      (c.in_ok-info.ensures.merged
      ∙ ap (λ (t : Tables). merged t.info c.args.remote.now) c.tables.ensures)
      refl c.in_ok-put_info.ensures.ends.0 c.set_info.ensures.ends c.set_info.ensures.fails
      (c.in_ok-put_info.ensures.progress own) got;
}
