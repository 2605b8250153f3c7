use Rattle.std.specs.Prelude.{refl}
use Rattle.std.proofs.lemmas.Result.{err_from_is_err_and}
use Rattle.jop_base.specs.declared.path.Path.TheVariants.{Item}
use Rattle.local_store.specs.declared.change.Change.TheVariants.{Dropped}
use Rattle.session.proofs.Ending.{ends_then, gives_up_behind}
use Rattle.session.specs.Parts.{Changes, Then}
use Rattle.upload.proofs.Deleted.{may_drop, stands, still_there}
use Rattle.upload.specs.Deleting.{DeletesBytes, DeletesFile, is_deletion}
use Rattle.upload.proofs.deleting.delete_one.Goals as goal

pub delete-requires : goal.delete-requires
delete-requires g c =
    let d = c.args.deletion.now in
    let first = c.requires.first in
    record {
      may = record {
        ready = first.ready;
        sort = refl;
        may = λ shown. record {
          deletion = d;
          at = stands (g.W.Session.now c.args.s.now).site d first.rest first.first;
        };
      };
    }

pub delete_bytes-requires : goal.delete_bytes-requires
delete_bytes-requires g c =
    let d = c.args.deletion.now in
    let now = g.W.Session.now in
    let first = c.requires.first in
    record {
      has = record {
        ready = c.in_ok-delete.ensures.ends.ready;
        at = still_there d (now c.args.s.now) (now c.delete.new.s)
            (stands (now c.args.s.now).site d first.rest first.first) c.in_ok-delete.ensures.ends;
      };
    }

pub make-requires-clause-may : goal.make-requires-clause-may
make-requires-clause-may g c =
    let d = c.args.deletion.now in
    let now = g.W.Session.now in
    may_drop d (now c.args.s.now) (now c.delete.new.s) (now c.delete_bytes.new.s)
    (stands (now c.args.s.now).site d c.requires.first.rest c.requires.first.first)
    c.in_ok-delete.ensures.ends c.in_ok-delete_bytes.ensures.ends

pub returns : goal.returns
returns g c = record {
  ends = let d = c.args.deletion.now in
      let now = g.W.Session.now in
      ends_then (DeletesFile (Item d.id)) (Then (DeletesBytes d d.resource) (Changes (Dropped d.id)))
      is_deletion _ (now c.delete.new.s) _ _ c.in_ok-delete.ensures.ends
      (ends_then (DeletesBytes d d.resource) (Changes (Dropped d.id)) is_deletion _
      (now c.delete_bytes.new.s) _ _ c.in_ok-delete_bytes.ensures.ends
      (c.make.ensures.ends is_deletion));
}

pub returns-in_err-delete_bytes : goal.returns-in_err-delete_bytes
returns-in_err-delete_bytes g c = record {
  ends = let d = c.args.deletion.now in
      let p = err_from_is_err_and c.from_residual-in_err-delete_bytes.result
      c.from_residual-in_err-delete_bytes.ensures.1 in
      rw (p.1, p.2) (gives_up_behind (DeletesFile (Item d.id)) is_deletion _
      (g.W.Session.now c.delete.new.s) _ _ c.in_ok-delete.ensures.ends
      c.in_err-delete_bytes.ensures.ends);
}
