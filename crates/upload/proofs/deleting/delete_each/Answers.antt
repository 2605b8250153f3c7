use Rattle.std.specs.Prelude.{◌+◌, drop}
use Rattle.std.proofs.Common.{◌∙◌, arith, sym}
use Rattle.std.proofs.lemmas.Result.{err_from_is_err_and}
use Rattle.session.proofs.Ending.{does_nothing, gives_up_behind}
use Rattle.session.proofs.Repeating.{does_all, does_here, here_and_left}
use Rattle.session.specs.Parts.{ForEach}
use Rattle.upload.proofs.Deleted.{all_of_them, rest_behind}
use Rattle.upload.specs.Deleting.{DeletesOne, is_deletion}
use Rattle.upload.proofs.deleting.delete_each.Goals as goal

pub loop-index-init : goal.loop-index-init
unfolding ForEach
loop-index-init g c = record {
  left = c.requires.all.all;
  does = does_nothing is_deletion _ c.requires.all.ready;
}

pub delete_one-requires : goal.delete_one-requires
delete_one-requires g c =
    let ds = c.args.deletions.now in
    let i = c.loop-index.index in
    record {
      first = record {
        ready = c.loop-index.invariant.does.ready;
        rest = drop (i + 1) ds;
        first = c.loop-index.invariant.left
            ∙ here_and_left ds i c.index-deletions-index.result (omega arith)
            c.index-deletions-index.is;
      };
    }

pub loop-index-preserved : goal.loop-index-preserved
loop-index-preserved g c =
    let ds = c.args.deletions.now in
    let i = c.loop-index.index in
    let d = c.index-deletions-index.result in
    let before = c.loop-index.invariant in
    let now = g.W.Session.now in
    record {
      left = rest_behind d (drop (i + 1) ds) (now c.loop-index.s) (now c.delete_one.new.s)
          (before.left ∙ here_and_left ds i d (omega arith) c.index-deletions-index.is)
          c.in_ok-delete_one.ensures.ends;
      does = does_here DeletesOne is_deletion ds i d _ _ _ (omega arith)
          c.index-deletions-index.is before.does c.in_ok-delete_one.ensures.ends;
    }

pub returns-in_err-delete_one : goal.returns-in_err-delete_one
returns-in_err-delete_one g c = record {
  ends = let p = err_from_is_err_and c.from_residual.result c.from_residual.ensures.1 in
      rw (p.1, p.2) (gives_up_behind _ _ _ _ _ _ c.loop-index.invariant.does
      c.in_err-delete_one.ensures.ends);
}

pub returns : goal.returns
returns g c = record {
  ends = all_of_them c.args.deletions.now (g.W.Session.now c.args.s.now) _ (sym c.requires.all.all)
      (does_all DeletesOne is_deletion c.args.deletions.now c.loop-index.index _ _ (omega arith)
      c.loop-index.invariant.does);
}
