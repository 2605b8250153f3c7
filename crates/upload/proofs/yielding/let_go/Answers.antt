use Rattle.std.specs.Prelude.{None}
use Rattle.session.proofs.Ending.{ends_then}
use Rattle.upload.proofs.Folders.{may_go}
use Rattle.upload.specs.Uploading.{Clears, Yields, is_upload}
use Rattle.upload.proofs.yielding.let_go.Goals as goal

pub give_way-requires : goal.give_way-requires
give_way-requires g c = record {
  may = record {
    ready = c.in_ok-clear.ensures.ends.ready;
    yields = record {
      sound = tt;
      may = λ shown.
          may_go c.args.row.now (g.W.Session.now c.clear.new.s).site shown
          c.in_ok-clear.ensures.found;
    };
  };
}

pub returns : goal.returns
returns g c = record {
  ends = ends_then (Clears c.args.row.now) (Yields c.args.row.now None) is_upload _
      (g.W.Session.now c.clear.new.s) _ _ c.in_ok-clear.ensures.ends c.give_way.ensures.ends;
}
