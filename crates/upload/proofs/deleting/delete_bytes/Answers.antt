use Rattle.std.specs.Prelude.{refl}
use Rattle.upload.proofs.Deleted.{nothing_for}
use Rattle.upload.proofs.deleting.delete_bytes.Goals as goal

pub returns-then-not-deletion : goal.returns-then-not-deletion
returns-then-not-deletion g c = record {
  ends = nothing_for c.args.deletion.now c.args.deletion.now.resource _ c.if-not-deletion.true
      c.requires.has.ready;
}

pub delete-requires : goal.delete-requires
delete-requires g c = record {
  may = record {
    ready = c.requires.has.ready;
    sort = refl;
    may = λ shown. record {
      deletion = c.args.deletion.now;
      at = c.requires.has.at;
      resource = c.if-not-deletion.false;
    };
  };
}
