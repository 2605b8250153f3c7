use Rattle.std.proofs.Common.{rules}
use Rattle.local_changes.proofs.EditedNotes.{edited_may}
use Rattle.local_changes.proofs.edit.edited.Goals as goal

pub saved_within-requires : goal.saved_within-requires
saved_within-requires c =
    edited_may c.args.tables.now c.args.id c.in_ok-item.item.now c.in_ok-item-2.item c.args.title
    c.args.body c.max.result c.requires.sound c.in_ok-item.ensures c.requires.title (search rules)
    c.in_ok-item-2.ensures
