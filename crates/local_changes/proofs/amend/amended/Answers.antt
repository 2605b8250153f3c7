use Rattle.std.proofs.Common.{rules}
use Rattle.local_changes.proofs.AmendedItems.{amended_may}
use Rattle.local_changes.proofs.amend.amended.Goals as goal

pub saved_within-requires : goal.saved_within-requires
saved_within-requires c =
    amended_may c.args.tables.now c.args.id c.in_ok-item.item.now c.in_ok-new.new
    c.set_times.new.item c.max.result c.requires.sound c.in_ok-item.ensures
    (c.in_ok-new.ensures.content c.args.id) (search rules) c.in_ok-set_times.ensures
