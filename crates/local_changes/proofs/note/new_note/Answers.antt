use Rattle.local_changes.proofs.Unsealed.{note_may}
use Rattle.local_changes.proofs.note.new_note.Goals as goal

pub saved_within-requires : goal.saved_within-requires
saved_within-requires c =
    let made = c.in_ok-item.ensures in
    note_may c.args.id c.args.book c.args.title c.args.body c.args.now c.in_ok-item.item
    made.made made.valid made.id
