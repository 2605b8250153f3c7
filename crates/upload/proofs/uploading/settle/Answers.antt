use Rattle.session.specs.declared.finding.Finding.TheVariants.{Other, Missing}
use Rattle.upload.proofs.Uploaded.{settles_as, settles_nothing}
use Rattle.upload.specs.Uploading.{blobs_of}
use Rattle.upload.proofs.uploading.settle.Goals as goal

pub returns-in-Other : goal.returns-in-Other
returns-in-Other g c = record {
  ends = settles_as (blobs_of (g.W.Session.now c.args.s.now).site.keeper.kept) c.args.row.now
      c.args.finding (Other c.in-Other.remote) _ _ c.give_way_to.result c.in-Other.is
      c.give_way_to.ensures.ends;
}

pub returns-in-Missing : goal.returns-in-Missing
returns-in-Missing g c = record {
  ends = settles_as (blobs_of (g.W.Session.now c.args.s.now).site.keeper.kept) c.args.row.now
      c.args.finding Missing _ _ c.let_go.result c.in-Missing.is c.let_go.ensures.ends;
}

pub returns-in-Unreadable : goal.returns-in-Unreadable
returns-in-Unreadable g c = record {
  ends =
      let a = g.W.Session.now c.args.s.now in
      settles_nothing (blobs_of a.site.keeper.kept) c.args.row.now c.args.finding a
      c.in-Unreadable.is c.requires.seen.ready;
}
