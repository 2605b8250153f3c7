use Rattle.std.proofs.Common.{◌≡◌, take, drop}
use Rattle.session.specs.Doing.{Does}
use Rattle.session.specs.Parts.{ForEach}
use Rattle.upload.specs.Deleting.{DeletesOne, is_deletion}
use Rattle.upload.proofs.deleting.delete_each.Given as goal

-- those before here are done, and those from here on are still there
abbrev pub invariant-loop-index : goal.invariant-loop-index
invariant-loop-index g l =
    let now = g.W.Session.now l.s in
    record {
      left : now.site.tables.deletions ≡ drop l.index l.deletions;
      does : Does (ForEach DeletesOne (take l.index l.deletions)) is_deletion
          (g.W.Session.now l.fn.s) now;
    }
